use Rattle.std.proofs.Common.{ap, ◌∙◌}
use Rattle.std.specs.Int.{div_ceil}
use Rattle.vp_sets.specs.Blocks.{block_count}
use Rattle.vp_sets.proofs.geometry.Geometry.block_count.Goals as goal

pub returns-clause-value : goal.returns-clause-value
unfolding block_count
returns-clause-value c = c.div_ceil.ensures ∙ ap (λ n. div_ceil n 512) c.positions.ensures.value
