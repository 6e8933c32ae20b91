use Rattle.std.proofs.Common.{◌≡◌, ℕ, ◌+◌, ◌*◌, ◌%◌, false, cond, eqb, List, All, map, refl, sym, ◌∙◌, ap, subst, arith}
use Rattle.std.proofs.lemmas.Nat.{pow_pos}
use Rattle.std.proofs.Math.Nat.{mod-eq_of_lt}
use Rattle.bit_planes.specs.Bits.{bit}
use Rattle.bit_planes.specs.Planes.{number}
use Rattle.paris_code.specs.declared.instr.Instr.{Instr}
use Rattle.paris_code.specs.declared.instr.Instr.TheVariants as I
use Rattle.paris_code.specs.declared.operands.SignedCoordinate.{SignedCoordinate}
use Rattle.paris_code.specs.Checking.{any_leaves, any_outside, checked_set, fails}
use Rattle.paris_code.specs.Memory.{BitMemory}
use Rattle.paris_code.specs.Operands.{coordinate_of}
use Rattle.paris_code.specs.declared.operands.GridStep.{GridStep}
use Rattle.paris_code.specs.Shapes.{SetShape, extents_at}
use Rattle.phase_meaning.specs.Apply.{CanApply}
use Rattle.phase_elements.proofs.Coordinates.{checked_in}
use Rattle.block_store.specs.Stored.{shape_of_plan}
use Rattle.elementwise.specs.Blocks.{block_memory}
use Rattle.elementwise.specs.Columns.{IsCoordinateWithin}
use Rattle.elementwise.proofs.Coordinates.{HasBits, checked_within}
use Rattle.elementwise.proofs.Kernels.{field_number_is}
use Rattle.elementwise.proofs.failures.failing_lanes.Goals as goal
use Rattle.elementwise.proofs.failures.failing_lanes.Goals.{in-CheckTarget, in-CheckGrid, in-CheckDivisor, in_default}

-- an instruction that is no check fails nowhere
no_check : (shapes : List SetShape) (instr : Instr) (args : List ℕ) (m : BitMemory) (p : ℕ) → ((set : _) (place : _) (cs : _) → instr ≡ I.CheckTarget set place cs → ⊥) → ((set : _) (place : _) (steps : _) → instr ≡ I.CheckGrid set place steps → ⊥)
    → ((place : _) (a : _) → instr ≡ I.CheckDivisor place a → ⊥) → fails shapes instr args m p ≡ false
no_check shapes (I.CheckTarget set place cs) args m p t g d = absurd (t set place cs refl)
no_check shapes (I.CheckGrid set place steps) args m p t g d = absurd (g set place steps refl)
no_check shapes (I.CheckDivisor place a) args m p t g d = absurd (d place a refl)
no_check shapes _ args m p t g d = cc

pub any_outside-requires : goal.any_outside-requires
any_outside-requires c =
    let shapes = map shape_of_plan c.args.plans.now in
    let planes = c.args.planes.now in
    let set = c.in-CheckTarget.set in
    let items = c.in-CheckTarget.coordinates.items in
    let can = subst (λ (i : Instr). CanApply shapes i c.args.args.now) c.in-CheckTarget.is c.requires.can in
    subst (λ (cs : List SignedCoordinate). All (λ e. IsCoordinateWithin planes (coordinate_of e)) cs) (sym c.as_slice.ensures.value)
    (checked_within shapes planes items (checked_in shapes can.slots set items (HasBits shapes planes) can.field can.set.1.0 can.operands
    (subst (λ (i : Instr). HasBits shapes planes (checked_set i)) c.in-CheckTarget.is c.requires.planes)))

pub returns : goal.returns
returns c = λ i b.
    let shapes = map shape_of_plan c.args.plans.now in
    let args : List ℕ = c.args.args.now in
    let m = block_memory c.args.planes.now in
    let p : ℕ = 512 * c.args.k + i in
    let lane : i ≡ p % 512 = omega (arith, b) in
    let known : Instr → Type 0 = λ instr. bit c.match-instr.result i ≡ cond (fails shapes instr args m p) 1 0 in
    elim c.match-instr.branch [
      | in-CheckTarget w ↦ subst known (sym w.in-CheckTarget.is) (ap (λ v. bit v i) w.result-is ∙ ap (bit w.any_outside.result) lane ∙ w.any_outside.ensures p
          ∙ ap (λ (xs : List ℕ). cond (any_outside m xs w.as_slice.result.now args p) 1 0) (w.extents-extents.ensures.value ∙ w.plan_of.ensures.extents)
          ∙ ap (λ (cs : List SignedCoordinate). cond (any_outside m (extents_at shapes w.in-CheckTarget.set) cs args p) 1 0) w.as_slice.ensures.value)
      | in-CheckGrid w ↦ subst known (sym w.in-CheckGrid.is) (ap (λ v. bit v i) w.result-is ∙ w.any_leaves.ensures i b
          ∙ ap (λ (xs : List ℕ). cond (any_leaves xs w.as_slice-in-CheckGrid.result.now args p) 1 0) w.plan_of-in-CheckGrid.ensures.extents
          ∙ ap (λ (ss : List GridStep). cond (any_leaves (extents_at shapes w.in-CheckGrid.set) ss args p) 1 0) w.as_slice-in-CheckGrid.ensures.value)
      | in-CheckDivisor w ↦ subst known (sym w.in-CheckDivisor.is) (ap (λ v. bit v i) w.result-is ∙ w.equal.ensures i b
          ∙ ap (λ z. cond (eqb (number c.args.planes.now w.in-CheckDivisor.source.offset w.in-CheckDivisor.source.len i) z) 1 0) (mod-eq_of_lt (pow_pos w.in-CheckDivisor.source.len))
          ∙ ap (λ j. cond (eqb (number c.args.planes.now w.in-CheckDivisor.source.offset w.in-CheckDivisor.source.len j) 0) 1 0) lane
          ∙ ap (λ x. cond (eqb x 0) 1 0) (field_number_is c.args.planes.now w.in-CheckDivisor.source p))
      | in_default w ↦ ap (λ v. bit v i) w.result-is ∙ w.repeated.ensures i b
          ∙ sym (ap (λ t. cond t 1 0) (no_check shapes c.args.instr.now args m p w.in_default.not-CheckTarget w.in_default.not-CheckGrid w.in_default.not-CheckDivisor))
    ]
