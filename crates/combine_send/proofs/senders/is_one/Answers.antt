use Rattle.std.proofs.Common.{refl}
use Rattle.bit_planes.specs.Bits.{bit}
use Rattle.combine_send.proofs.senders.is_one.Goals as goal

pub returns : goal.returns
unfolding bit
returns c = refl
