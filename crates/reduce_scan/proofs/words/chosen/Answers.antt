use Rattle.std.proofs.Common.{min, max, ap, ◌∙◌}
use Rattle.bit_planes.specs.Bits.{bit}
use Rattle.bit_planes.proofs.Words.{bit-lt}
use Rattle.reduce_scan.proofs.WordRuns.{chosen_bit}
use Rattle.reduce_scan.proofs.words.chosen.Goals as goal

pub returns : goal.returns
returns c = λ i b.
    let m = bit c.args.mask i in
    let x = bit c.args.a i in
    let y = bit c.args.b i in
    c.either.ensures i b ∙ ap (λ n. max n (bit c.both-2.result i)) (c.both.ensures i b)
    ∙ ap (λ n. max (min m x) n) (c.both-2.ensures i b) ∙ ap (λ n. max (min m x) (min n y)) (c.opposite.ensures i b)
    ∙ chosen_bit m x y (bit-lt c.args.mask i) (bit-lt c.args.a i) (bit-lt c.args.b i)
