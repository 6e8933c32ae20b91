use Rattle.bit_planes.proofs.Words.{bit-repeated}
use Rattle.bit_planes.proofs.plane.each_word.Goals as goal

pub returns : goal.returns
returns c = bit-repeated c.args.word
