use Rattle.std.proofs.Common.{true}
use Rattle.std.proofs.lemmas.Result.{IfOk-weaker}
use Rattle.cstar_tree.specs.Scopes.{find}
use Rattle.type_scopes.specs.FileBindings.{names_at}
use Rattle.type_expressions.specs.Names.{IsVariableMeant, TellsOther}
use Rattle.type_expressions.proofs.Walking.{element_typed, found_of}
use Rattle.type_expressions.proofs.walk.element_of.Goals as goal
use Rattle.type_expressions.proofs.NodeRecording.{element_tells, element_wanting}
use Rattle.type_expressions.proofs.walk.element_of.Goals.{in_default-via-in-Some+in_default, in_default-via-in_default}

pub returns-clause-typed : goal.returns-clause-typed
returns-clause-typed c e =
    let m = find (names_at c.args.file.now c.args.locals.now c.args.site.known) c.args.name.now.word in
    let found = found_of (IsVariableMeant true m) (TellsOther true m c.args.name.now.place) c.array.result c.in_ok-array.array c.in-Some-Some.array c.array.ensures c.in_ok-array.ensures.part c.in-Some-Some.is-0 in
    rw c.in-Some-Some.is-1 (IfOk-weaker c.outcome.result _ _ (λ r m. element_typed c.args.file.now c.args.locals.now c.args.site c.args.name.now c.args.bracket e c.in-Some-Some.array.0 c.in-Some-Some.array.1 c.in-Some-Some.index c.element.result _ _ r found c.element.ensures m) c.outcome.ensures)

pub returns-in_default-clause-faults : goal.returns-in_default-clause-faults
returns-in_default-clause-faults c e =
    element_wanting c.args.file.now c.args.locals.now c.args.site c.args.name.now c.args.bracket e c.array.result c.in_ok-array.array c.args.index _ _ c.array.ensures c.in_ok-array.ensures.part c.in_ok-array.ensures.least (λ a b is also. elim c.in_default.branch [
      | in_default-via-in-Some+in_default w ↦ let k = w.in_default in cc
      | in_default-via-in_default w ↦ let k = w.in_default in cc
    ])

pub returns-clause-faults : goal.returns-clause-faults
returns-clause-faults c e =
    rw c.in-Some-Some.is-1 (IfOk-weaker c.outcome.result _ _ (λ r m. element_tells c.args.file.now c.args.locals.now c.args.site c.args.name.now c.args.bracket e c.array.result c.in_ok-array.array c.in-Some-Some.array.0 c.in-Some-Some.array.1 c.in-Some-Some.index c.element.result _ _ _ r c.array.ensures c.in_ok-array.ensures.part c.in_ok-array.ensures.least c.in-Some-Some.is-0 c.element.ensures m) c.outcome.ensures)
