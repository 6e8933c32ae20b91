use Rattle.std.proofs.Common.{◌≡◌, ℕ, suc, ◌*◌, List, drop, ◌∙◌, ap, w32, arith}
use Rattle.std.specs.Prelude.{slice_index}
use Rattle.std.proofs.lemmas.Int.{to_z-of_z}
use Rattle.vp_sets.specs.Positions.{position_count, shifted}
use Rattle.vp_sets.proofs.PositionLaws.{axis_count, count_positive, geometry_parts}
use Rattle.news_grid.proofs.Steps.{leads}
use Rattle.news_grid.proofs.step.Step.along.Goals as goal

pub overflow_mul-turn : goal.overflow_mul-turn
overflow_mul-turn c =
    let xs : List ℕ = c.args.geometry.now in
    let parts = geometry_parts xs c.extent.ensures.valid in
    let is : c.extent.result * c.stride.result ≡ slice_index xs c.args.axis * position_count (drop (suc c.args.axis) xs) =
    ap (λ e. e * c.stride.result) c.extent.ensures.value ∙ ap (λ s. slice_index xs c.args.axis * s) c.stride.ensures.value in
    record { fits = omega (arith, is, axis_count xs c.args.axis parts.2 c.requires, parts.3) }

pub shift-requires-clause-position : goal.shift-requires-clause-position
shift-requires-clause-position c = count_positive c.args.geometry.now (geometry_parts c.args.geometry.now c.extent.ensures.valid).2

pub returns : goal.returns
returns c =
    let xs : List ℕ = c.args.geometry.now in
    leads xs c.args.axis c.args.by (geometry_parts xs c.extent.ensures.valid).2 c.requires (record { turn = c.extent.result * c.stride.result; ahead = c.shift.result; blocks = c.blocks_of_turn.result })
    (ap (λ e. e * c.stride.result) c.extent.ensures.value ∙ ap (λ s. slice_index xs c.args.axis * s) c.stride.ensures.value)
    (c.shift.ensures.value ∙ ap (shifted xs 0 c.args.axis) (to_z-of_z w32 c.args.by c.ranges.by))
    c.blocks_of_turn.ensures
