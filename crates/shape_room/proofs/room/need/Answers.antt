use Rattle.std.proofs.Common.{arith}
use Rattle.cstar_tree.specs.Room.{need}
use Rattle.shape_room.proofs.room.need.Goals as goal

pub returns : goal.returns
unfolding need
returns c = λ has is. omega (arith, c.in_ok-main.ensures has is, c.file_bits.ensures)
