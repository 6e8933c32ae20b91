use Rattle.bit_planes.proofs.Butterfly.{pairs_more}
use Rattle.bit_planes.proofs.transpose.exchange.Goals as goal

pub loop-pair-preserved : goal.loop-pair-preserved
loop-pair-preserved c = pairs_more c.args.step c.requires.step c.loop-pair.pair c.loop-pair-test.true c.args.planes.now c.loop-pair.planes c.exchange_pair.new.planes c.loop-pair.invariant c.exchange_pair.ensures
