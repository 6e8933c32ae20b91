use Rattle.std.proofs.Common.{false, refl, sym}
use Rattle.std.proofs.lemmas.Result.{IfOk-weaker, on_ok_weaker}
use Rattle.cstar_tree.specs.Scopes.{find}
use Rattle.cstar_tree.specs.declared.syntax.Expr as E
use Rattle.type_scopes.specs.FileBindings.{names_at}
use Rattle.type_expressions.specs.Names.{IsVariableMeant, TellsOther}
use Rattle.type_expressions.proofs.Meetings.{at_answer, meets_as, meets_none}
use Rattle.type_expressions.proofs.NodeCalls.{no_own, own_of_call, own_of_index, own_of_printf}
use Rattle.type_expressions.proofs.Walking.{found_if, without_calls}
use Rattle.type_expressions.proofs.walk.with_list.Goals as goal
use Rattle.type_expressions.proofs.NodeRecording.{left_index_tells, printf_tells}
use Rattle.type_expressions.proofs.Recording.{both_ok}

pub returns-in-Call-clause-typed : goal.returns-in-Call-clause-typed
returns-in-Call-clause-typed c = rw c.in-Call.is (c.call.ensures.typed c.in-Call.arguments)

pub returns-in_ok-variable-in-LeftIndex-clause-typed : goal.returns-in_ok-variable-in-LeftIndex-clause-typed
returns-in_ok-variable-in-LeftIndex-clause-typed c =
    let m = find (names_at c.args.file.now c.args.locals.now c.args.site.known) c.in-LeftIndex.name.word in
    let found = found_if (IsVariableMeant false m) (TellsOther false m c.in-LeftIndex.name.place) c.plain_variable.result c.in_ok-variable-in-LeftIndex.variable c.plain_variable.ensures c.in_ok-variable-in-LeftIndex.ensures.part in
    rw c.in-LeftIndex.is (IfOk-weaker c.indexed.result _ _ (λ r m. without_calls c.args.found.now.instances c.args.parts c.args.file.now c.args.locals.now c.args.site (E.LeftIndex c.in-LeftIndex.place c.in-LeftIndex.indexes c.in-LeftIndex.name) r m) (c.indexed.ensures.typed c.args.locals.now c.args.site c.in-LeftIndex.name c.in-LeftIndex.indexes found))

pub returns-in-Call-clause-calls : goal.returns-in-Call-clause-calls
returns-in-Call-clause-calls c = on_ok_weaker c.call.result (meets_as (λ here. sym (own_of_call here c.in-Call.name c.in-Call.arguments c.in-Call.is))) c.call.ensures.calls

pub returns-in_ok-variable-in-LeftIndex-clause-calls : goal.returns-in_ok-variable-in-LeftIndex-clause-calls
returns-in_ok-variable-in-LeftIndex-clause-calls c = at_answer c.indexed.result (meets_none refl (λ here. own_of_index here c.in-LeftIndex.place c.in-LeftIndex.indexes c.in-LeftIndex.name c.in-LeftIndex.is))

pub returns-in-Some-clause-calls : goal.returns-in-Some-clause-calls
returns-in-Some-clause-calls c = at_answer c.settle-in-Some.result (meets_none refl (λ here. own_of_printf here c.in-Printf.place c.in-Printf.text c.in-Printf.arguments c.in-Printf.is))

pub returns-in-None-clause-calls : goal.returns-in-None-clause-calls
returns-in-None-clause-calls c = meets_none refl (λ here. own_of_printf here c.in-Printf.place c.in-Printf.text c.in-Printf.arguments c.in-Printf.is)

pub returns-in_default-clause-calls : goal.returns-in_default-clause-calls
returns-in_default-clause-calls c = meets_none refl (λ here. no_own here c.args.e.now c.in_default.not-Call)

pub returns-in-Call-clause-faults : goal.returns-in-Call-clause-faults
returns-in-Call-clause-faults c = rw c.in-Call.is (c.call.ensures.faults c.in-Call.arguments)

pub returns-in_ok-variable-in-LeftIndex-clause-faults : goal.returns-in_ok-variable-in-LeftIndex-clause-faults
returns-in_ok-variable-in-LeftIndex-clause-faults c =
    let m = find (names_at c.args.file.now c.args.locals.now c.args.site.known) c.in-LeftIndex.name.word in
    let found = found_if (IsVariableMeant false m) (TellsOther false m c.in-LeftIndex.name.place) c.plain_variable.result c.in_ok-variable-in-LeftIndex.variable c.plain_variable.ensures c.in_ok-variable-in-LeftIndex.ensures.part in
    rw c.in-LeftIndex.is (IfOk-weaker c.indexed.result _ _ (λ r m program here a calls parts. left_index_tells c.args.file.now c.args.locals.now c.args.site c.in-LeftIndex.place c.in-LeftIndex.name c.in-LeftIndex.indexes c.plain_variable.result c.in_ok-variable-in-LeftIndex.variable c.args.parts _ _ _ _ c.plain_variable.ensures c.in_ok-variable-in-LeftIndex.ensures.part c.in_ok-variable-in-LeftIndex.ensures.least program here a (m program here a parts)) (c.indexed.ensures.faults c.args.locals.now c.args.site c.in-LeftIndex.name c.in-LeftIndex.indexes found))

pub returns-in-Some-clause-faults : goal.returns-in-Some-clause-faults
returns-in-Some-clause-faults c =
    rw (c.in-Printf.is, c.in-Some.is) (both_ok c.settle-in-Some.result _ _ (λ r is settled program here a calls parts. printf_tells c.in-Printf.place c.in-Printf.text c.in-Printf.arguments c.in-Some.parts c.printf.result r _ _ program here c.printf.ensures is settled parts) c.settle-in-Some.ensures.part c.settle-in-Some.ensures.least)
