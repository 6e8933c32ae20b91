use Rattle.bit_planes.proofs.Numbers.{first_bits}
use Rattle.bit_planes.proofs.plane.first_lanes.Goals as goal

pub returns : goal.returns
returns c = first_bits c.args.count c.first_of_word.result c.first_of_word-2.result c.first_of_word-3.result c.first_of_word-4.result c.first_of_word-5.result c.first_of_word-6.result c.first_of_word-7.result c.first_of_word-8.result
    c.first_of_word.ensures c.first_of_word-2.ensures c.first_of_word-3.ensures c.first_of_word-4.ensures c.first_of_word-5.ensures c.first_of_word-6.ensures c.first_of_word-7.ensures c.first_of_word-8.ensures
