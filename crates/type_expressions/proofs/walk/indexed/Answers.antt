use Rattle.std.proofs.Common.{Option, false, subst, IfSome}
use Rattle.std.proofs.lemmas.Result.{IfOk-weaker}
use Rattle.cstar_tree.specs.Scopes.{find}
use Rattle.cstar_tree.specs.declared.typed.Variable.{Variable}
use Rattle.type_scopes.specs.FileBindings.{names_at}
use Rattle.type_scopes.specs.declared.names.VariableType.{VariableType}
use Rattle.type_expressions.specs.Names.{IsVariableMeant}
use Rattle.type_expressions.proofs.Walking.{indexed_typed}
use Rattle.type_expressions.proofs.walk.indexed.Goals as goal
use Rattle.type_expressions.proofs.NodeRecording.{indexed_tells}

pub returns-clause-typed : goal.returns-clause-typed
returns-clause-typed c locals site n indexes found =
    let meant = subst (λ (o : Option (Variable × VariableType)). IfSome o (IsVariableMeant false (find (names_at c.args.file.now locals site.known) n.word))) c.in-Some-Some.is-0 found in
    rw c.in-Some-Some.is-1 (IfOk-weaker c.outcome.result _ _ (λ r m. indexed_typed c.args.file.now locals site c.args.place n indexes c.in-Some-Some.variable.0 c.in-Some-Some.variable.1 c.in-Some-Some.parts c.left_index.result _ _ r meant c.left_index.ensures m) c.outcome.ensures)

pub returns-clause-faults : goal.returns-clause-faults
returns-clause-faults c locals site n indexes found =
    let meant = subst (λ (o : Option (Variable × VariableType)). IfSome o (IsVariableMeant false (find (names_at c.args.file.now locals site.known) n.word))) c.in-Some-Some.is-0 found in
    rw (c.in-Some-Some.is-0, c.in-Some-Some.is-1) (IfOk-weaker c.outcome.result _ _ (λ r m. indexed_tells c.args.file.now locals site c.args.place n indexes _ c.in-Some-Some.variable.0 c.in-Some-Some.variable.1 c.in-Some-Some.parts c.left_index.result _ _ r meant c.left_index.ensures m) c.outcome.ensures)
