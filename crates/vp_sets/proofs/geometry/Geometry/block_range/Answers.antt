use Rattle.std.proofs.Common.{arith, refl, ap, min, ◌+◌, ◌*◌, ◌∙◌}
use Rattle.vp_sets.specs.Blocks.{block_start, block_end}
use Rattle.vp_sets.proofs.PositionLaws.{block_start_below}
use Rattle.vp_sets.proofs.geometry.Geometry.block_range.Goals as goal

pub overflow_mul-start : goal.overflow_mul-start
overflow_mul-start c = omega (arith, block_start_below c.args.self.now c.args.b c.requires, c.positions-positions.ensures.value, c.positions-positions.ensures.bound)

pub overflow_add-start : goal.overflow_add-start
overflow_add-start c = omega (arith, block_start_below c.args.self.now c.args.b c.requires, c.positions-positions.ensures.value, c.positions-positions.ensures.bound)

pub returns-clause-start : goal.returns-clause-start
unfolding block_start
returns-clause-start c = refl

pub returns-clause-end : goal.returns-clause-end
unfolding block_end block_start
returns-clause-end c = c.min.ensures ∙ ap (min (c.args.b * 512 + 512)) c.positions-positions.ensures.value

pub returns-clause-some : goal.returns-clause-some
returns-clause-some c = omega (arith, block_start_below c.args.self.now c.args.b c.requires, c.positions-positions.ensures.value, c.min.ensures)
