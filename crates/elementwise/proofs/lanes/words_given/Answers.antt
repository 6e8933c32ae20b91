use Rattle.std.proofs.Common.{◌≡◌, ℕ, ◌+◌, ◌*◌, ◌%◌, ◌^◌, List, map, sym, ◌∙◌, ap, subst, arith}
use Rattle.std.specs.Prelude.{slice_index}
use Rattle.vp_sets.specs.Positions.{number_at, position_count}
use Rattle.paris_code.specs.declared.instr.Instr.{Instr}
use Rattle.paris_code.specs.declared.operands.Coordinate.{Coordinate}
use Rattle.paris_code.specs.Arguments.{coordinate_numbers}
use Rattle.paris_code.specs.Elementwise.{element, destination}
use Rattle.paris_code.specs.Shapes.{extents_at}
use Rattle.phase_meaning.specs.Apply.{CanApply}
use Rattle.phase_meaning.proofs.FieldLemmas.{lies}
use Rattle.phase_meaning.proofs.Widths.{cut_cut}
use Rattle.block_store.specs.Stored.{shape_of_plan}
use Rattle.elementwise.specs.Blocks.{block_memory}
use Rattle.elementwise.proofs.lanes.words_given.Goals as goal

pub returns-in-MakeAddress : goal.returns-in-MakeAddress
returns-in-MakeAddress c = λ i b within.
    let shapes = map shape_of_plan c.args.plans.now in
    let args : List ℕ = c.args.args.now in
    let m = block_memory c.args.block.now.planes.items in
    let p : ℕ = 512 * c.args.k + i in
    let lane : i ≡ p % 512 = omega (arith, b) in
    let word = slice_index c.addresses.result i in
    let d = c.in-MakeAddress.dest in
    let can = subst (λ (instr : Instr). CanApply shapes instr args) c.in-MakeAddress.is c.requires.can in
    let short = (lies shapes d can.field.0 can.set.0).2 in
    let count : ℕ = position_count c.extents-extents.result.now in
    subst (λ (instr : Instr). word % 2 ^ (destination shapes instr).len ≡ element shapes instr args m p % 2 ^ (destination shapes instr).len) (sym c.in-MakeAddress.is)
    (sym (cut_cut word d.len 32 short) ∙ ap (λ n. n % 2 ^ d.len) (ap (λ j. slice_index c.addresses.result j % 2 ^ 32) lane ∙ c.addresses.ensures p) ∙ cut_cut _ d.len 32 short
    ∙ ap (λ n. n % 2 ^ d.len)
    (ap (λ n. n * count + number_at c.extents-extents.result.now (coordinate_numbers m c.as_slice.result.now args p)) (c.all_lanes.ensures (p % 512) (omega arith))
    ∙ (let e : 0 * count + number_at c.extents-extents.result.now (coordinate_numbers m c.as_slice.result.now args p) ≡ number_at c.extents-extents.result.now (coordinate_numbers m c.as_slice.result.now args p) = omega arith in e)
    ∙ ap (λ (xs : List ℕ). number_at xs (coordinate_numbers m c.as_slice.result.now args p)) (c.extents-extents.ensures.value ∙ c.plan_of-in-MakeAddress.ensures.extents)
    ∙ ap (λ (cs : List Coordinate). number_at (extents_at shapes c.in-MakeAddress.grid) (coordinate_numbers m cs args p)) c.as_slice.ensures.value))
