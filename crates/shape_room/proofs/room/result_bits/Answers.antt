use Rattle.std.proofs.Common.{arith, refl}
use Rattle.cstar_tree.specs.Room.{passed_bits}
use Rattle.shape_room.proofs.room.result_bits.Goals as goal

pub returns-in-Some : goal.returns-in-Some
unfolding passed_bits
returns-in-Some c = rw c.in-Some.is (omega (arith, c.on_shape.ensures))

pub returns-in-None : goal.returns-in-None
unfolding passed_bits
returns-in-None c = rw c.in-None.is refl
