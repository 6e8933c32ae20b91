use Rattle.std.proofs.Common.{◌≡◌, refl, sym, ◌∙◌}
use Rattle.std.proofs.lemmas.Result.{IfOk-weaker}
use Rattle.type_expressions.specs.Instances.{Grows}
use Rattle.type_expressions.proofs.CallsWithin.{begins_both, begins_same}
use Rattle.type_expressions.proofs.Walking.{found_of}
use Rattle.type_statements.specs.Declarators.{FitsArray}
use Rattle.type_statements.proofs.Declared.{declared_grown, local_settled, settled_local}
use Rattle.type_statements.proofs.Meetings.{local_meets}
use Rattle.type_statements.proofs.declarations.local.Goals as goal
use Rattle.type_statements.proofs.declarations.local.Goals.{then-not-new, else-not-new}

pub returns-in_default-clause-grown : goal.returns-in_default-clause-grown
returns-in_default-clause-grown c = declared_grown _ _ _ c.in_ok-new.new c.in_ok-new.ensures.names

pub returns-in_default-clause-met : goal.returns-in_default-clause-met
returns-in_default-clause-met c =
    let same : Grows c.args.file.now c.array_length.new.found.instances c.if-not-new.found.instances = elim c.if-not-new.branch [
      | then-not-new w ↦ rw w.found-is (begins_same refl)
      | else-not-new w ↦ rw w.found-is (begins_same refl)
    ] in
    begins_both (begins_same c.count.ensures.instances) (begins_both c.in_ok-length.ensures.met (begins_both same c.in_ok-initial.ensures.met))

pub returns-clause-grown : goal.returns-clause-grown
returns-clause-grown c = settled_local c.settle-2.result (declared_grown _ _ _ c.in_ok-new.new c.in_ok-new.ensures.names)

pub returns-clause-typed : goal.returns-clause-typed
returns-clause-typed c =
    let fits = found_of (λ u. FitsArray c.args.ty c.in_ok-length.length c.args.declarator.now.initial) _ c.array_fits.result c.in_ok-fits.fits _ c.array_fits.ensures c.in_ok-fits.ensures.part c.in-Some-Some-true.is-1 in
    let same : Grows c.args.file.now c.array_length.new.found.instances c.if-not-new.found.instances = elim c.if-not-new.branch [
      | then-not-new w ↦ rw w.found-is (begins_same refl)
      | else-not-new w ↦ rw w.found-is (begins_same refl)
    ] in
    let names = rw c.in-Some-Some-true.is-2 at c.in_ok-new.ensures.names in
    let count = rw c.in-Some-Some-true.is-2 at c.in_ok-new.ensures.count in
    let fresh = sym c.in_ok-new.ensures.is_new ∙ c.in-Some-Some-true.is-2 in
    let ty = rw c.in-Some-Some-true.is-0 at c.variable-ty.ensures in
    IfOk-weaker c.settle-2.result _ _ (λ r m. local_settled _ _ c.args.file.now c.args.scopes.now _ c.args.site c.args.scope c.args.ty c.in_ok-length.length c.in-Some-Some-true.ty c.args.declarator.now c.in_ok-initial.initial c.local_variable-variable.result r (begins_both same c.in_ok-initial.ensures.met) c.in_ok-length.ensures.typed fits ty (rw c.in-Some-Some-true.is-0 at names) count fresh c.in_ok-initial.ensures.typed c.local_variable-variable.ensures m) c.settle-2.ensures.part

pub returns-clause-met : goal.returns-clause-met
returns-clause-met c =
    let same : Grows c.args.file.now c.array_length.new.found.instances c.if-not-new.found.instances = elim c.if-not-new.branch [
      | then-not-new w ↦ rw w.found-is (begins_same refl)
      | else-not-new w ↦ rw w.found-is (begins_same refl)
    ] in
    settled_local c.settle-2.result (begins_both (begins_same c.count.ensures.instances) (begins_both c.in_ok-length.ensures.met (begins_both same c.in_ok-initial.ensures.met)))

pub returns-clause-calls : goal.returns-clause-calls
returns-clause-calls c =
    let same : c.if-not-new.found.instances ≡ c.array_length.new.found.instances = elim c.if-not-new.branch [
      | then-not-new w ↦ rw w.found-is refl
      | else-not-new w ↦ rw w.found-is refl
    ] in
    IfOk-weaker c.settle-2.result _ _ (λ r h. local_meets c.args.file.now c.args.scopes.now _ c.args.site c.args.scope c.args.ty c.args.declarator.now r (rw c.count.ensures.instances at c.in_ok-length.ensures.calls) (rw same at c.in_ok-initial.ensures.calls) h) (returns-clause-typed c)
