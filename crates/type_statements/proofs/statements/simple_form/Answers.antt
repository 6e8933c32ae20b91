use Rattle.type_statements.proofs.Meetings.{ok_calls, whole_meets}
use Rattle.type_statements.proofs.MetForms.{break_meets, continue_meets, empty_meets, expression_meets, return_meets}
use Rattle.type_statements.proofs.Walking.{break_typed, continue_typed, empty_typed, expression_typed, return_typed}
use Rattle.type_statements.proofs.statements.simple_form.Goals as goal

pub returns-in_ok-typed-in-Expression-clause-typed : goal.returns-in_ok-typed-in-Expression-clause-typed
returns-in_ok-typed-in-Expression-clause-typed c =
    rw c.in-Expression.is (expression_typed _ c.args.file.now c.args.scopes.now c.args.site c.in-Expression.place c.in-Expression.expr c.in_ok-typed-in-Expression.typed c.expression_statement.result (rw c.statement.ensures at c.in_ok-typed-in-Expression.ensures.typed) c.expression_statement.ensures)

pub returns-in_ok-value-in-Return-clause-typed : goal.returns-in_ok-value-in-Return-clause-typed
returns-in_ok-value-in-Return-clause-typed c =
    rw c.in-Return.is (return_typed _ c.args.file.now c.args.scopes.now c.args.site c.in-Return.place c.in-Return.value c.in_ok-value-in-Return.value c.returning.result c.in_ok-value-in-Return.ensures.typed c.returning.ensures.none c.returning.ensures.typed)

pub returns-in-Break-clause-typed : goal.returns-in-Break-clause-typed
returns-in-Break-clause-typed c = rw c.in-Break.is (break_typed _ c.args.file.now c.args.scopes.now c.args.site c.in-Break.place _ c.loop_word.result c.loop_word.ensures)

pub returns-in-Continue-clause-typed : goal.returns-in-Continue-clause-typed
returns-in-Continue-clause-typed c = rw c.in-Continue.is (continue_typed _ c.args.file.now c.args.scopes.now c.args.site c.in-Continue.place _ c.loop_word-in-Continue.result c.loop_word-in-Continue.ensures)

pub returns-in-Empty-clause-typed : goal.returns-in-Empty-clause-typed
returns-in-Empty-clause-typed c = rw c.in-Empty.is (empty_typed c.args.file.now c.args.scopes.now c.args.site c.in-Empty.field-0)

pub returns-in_ok-typed-in-Expression-clause-calls : goal.returns-in_ok-typed-in-Expression-clause-calls
returns-in_ok-typed-in-Expression-clause-calls c =
    rw c.in-Expression.is (ok_calls c.expression_statement.result (expression_meets c.args.file.now c.args.scopes.now c.args.site c.in-Expression.place c.in-Expression.expr (whole_meets c.args.file.now c.args.scopes.now.locals c.args.site c.in-Expression.expr (rw c.statement.ensures at c.in_ok-typed-in-Expression.ensures.calls))))

pub returns-in_ok-value-in-Return-clause-calls : goal.returns-in_ok-value-in-Return-clause-calls
returns-in_ok-value-in-Return-clause-calls c = rw c.in-Return.is (ok_calls c.returning.result (return_meets c.args.file.now c.args.scopes.now c.args.site c.in-Return.place c.in-Return.value c.in_ok-value-in-Return.ensures.calls))

pub returns-in-Break-clause-calls : goal.returns-in-Break-clause-calls
returns-in-Break-clause-calls c = rw c.in-Break.is (ok_calls c.loop_word.result (break_meets c.args.found.now.instances c.args.file.now c.args.scopes.now c.args.site c.in-Break.place))

pub returns-in-Continue-clause-calls : goal.returns-in-Continue-clause-calls
returns-in-Continue-clause-calls c = rw c.in-Continue.is (ok_calls c.loop_word-in-Continue.result (continue_meets c.args.found.now.instances c.args.file.now c.args.scopes.now c.args.site c.in-Continue.place))

pub returns-in-Empty-clause-calls : goal.returns-in-Empty-clause-calls
returns-in-Empty-clause-calls c = rw c.in-Empty.is (empty_meets c.args.found.now.instances c.args.file.now c.args.scopes.now c.args.site c.in-Empty.field-0)
