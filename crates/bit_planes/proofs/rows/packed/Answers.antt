use Rattle.bit_planes.proofs.Numbers.{row_packed}
use Rattle.bit_planes.proofs.rows.packed.Goals as goal

pub returns : goal.returns
returns c = row_packed c.args.v.now (λ k _. c.fits-v k) c.args.row c.requires c.word_from.result c.word_from-2.result c.word_from-3.result c.word_from-4.result c.word_from-5.result c.word_from-6.result c.word_from-7.result c.word_from-8.result
    c.word_from.ensures c.word_from-2.ensures c.word_from-3.ensures c.word_from-4.ensures c.word_from-5.ensures c.word_from-6.ensures c.word_from-7.ensures c.word_from-8.ensures
