use Rattle.bit_planes.proofs.Butterfly.{pair_written, step_pos}
use Rattle.bit_planes.proofs.transpose.exchange_pair.Goals as goal

pub returns : goal.returns
returns c = pair_written c.args.step c.args.first (step_pos c.args.step c.requires.step) c.args.planes.now c.swapped.result.0 c.swapped.result.1 c.requires.within c.swapped.ensures.first c.swapped.ensures.second
