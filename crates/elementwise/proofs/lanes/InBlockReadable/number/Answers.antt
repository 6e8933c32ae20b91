use Rattle.std.proofs.Common.{◌%◌, ◌∙◌, arith}
use Rattle.bit_planes.proofs.Planes.{number-lt}
use Rattle.paris_code.specs.Memory.{field_number}
use Rattle.block_store.proofs.Lanes.{run_is}
use Rattle.elementwise.specs.Blocks.{block_memory}
use Rattle.elementwise.proofs.lanes.InBlockReadable.number.Goals as goal

pub returns-clause-value : goal.returns-clause-value
unfolding field_number block_memory
returns-clause-value c = c.number.ensures ∙ run_is c.args.self.now.block.now.planes.items c.args.run.offset c.args.run.len (c.args.position % 512)

pub returns-clause-bound : goal.returns-clause-bound
returns-clause-bound c = omega (arith, c.number.ensures, number-lt c.args.self.now.block.now.planes.items c.args.run.offset c.args.run.len (c.args.position % 512))
