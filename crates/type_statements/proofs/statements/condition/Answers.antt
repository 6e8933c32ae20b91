use Rattle.std.proofs.Common.{refl, subst}
use Rattle.type_expressions.specs.Walks.{IsValue}
use Rattle.type_statements.proofs.Meetings.{no_calls, one_meets}
use Rattle.type_statements.proofs.Walking.{no_value, value_typed}
use Rattle.type_statements.proofs.statements.condition.Goals as goal

pub returns-in_default-clause-typed : goal.returns-in_default-clause-typed
returns-in_default-clause-typed c = rw c.in_default.is (no_value c.args.found.now.instances c.args.file.now c.args.scopes.now c.args.site)

pub returns-in-Some-2-clause-typed : goal.returns-in-Some-2-clause-typed
returns-in-Some-2-clause-typed c = rw c.in-Some.is (value_typed _ c.args.file.now c.args.scopes.now c.args.site c.in-Some.e c.in-Some-2.typed (subst (IsValue _ c.args.file.now c.args.scopes.now.locals c.args.site c.in-Some.e) c.in-Some-2.is c.in_ok-typed.ensures.typed))

pub returns-in_default-clause-calls : goal.returns-in_default-clause-calls
returns-in_default-clause-calls c = rw c.in_default.is (no_calls c.args.file.now c.args.scopes.now.locals c.args.site refl)

pub returns-in-Some-2-clause-calls : goal.returns-in-Some-2-clause-calls
returns-in-Some-2-clause-calls c = rw c.in-Some.is (one_meets c.args.file.now c.args.scopes.now.locals c.args.site c.in-Some.e c.in_ok-typed.ensures.calls)

pub returns-in-None-clause-calls : goal.returns-in-None-clause-calls
returns-in-None-clause-calls c = rw c.in-Some.is (one_meets c.args.file.now c.args.scopes.now.locals c.args.site c.in-Some.e c.in_ok-typed.ensures.calls)
