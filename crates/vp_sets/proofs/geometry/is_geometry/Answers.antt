use Rattle.std.proofs.Common.{arith, length, ◌≢◌, ◌∙◌}
use Rattle.std.proofs.lemmas.Bool.Decides.{nat_tests}
use Rattle.vp_sets.specs.Positions.{positions_fit}
use Rattle.vp_sets.proofs.PositionLaws.{geometry_by_positions, no_axes, too_many_axes, answered}
use Rattle.vp_sets.proofs.geometry.is_geometry.Goals as goal

pub returns-then-is_empty : goal.returns-then-is_empty
returns-then-is_empty c = no_axes c.args.extents.now (grind (arith, nat_tests, c.if-is_empty.ensures))

pub returns-then-extents : goal.returns-then-extents
returns-then-extents c = too_many_axes c.args.extents.now (omega arith)

pub returns : goal.returns
returns c =
    let some : length c.args.extents.now ≢ 0 = grind (arith, nat_tests, c.if-is_empty.ensures) in
    geometry_by_positions c.args.extents.now c.is_some.result some (omega arith)
    (c.is_some.ensures ∙ answered _ c.counted.result (positions_fit c.args.extents.now) c.counted.ensures)
