use Rattle.std.proofs.Common.{◌-◌, ◌∙◌, min, max, ap, bit_and, w8, arith}
use Rattle.std.specs.Int.{bit_at}
use Rattle.std.proofs.lemmas.Nat.Bits.{bit_at_and, bit_at_not, bit_at_or}
use Rattle.point_bits.proofs.bytes.merged.Goals as goal

pub returns : goal.returns
returns c = λ j h.
    bit_at_or (bit_and c.args.old (255 - c.args.ones)) c.args.new j
    ∙ ap (λ x. max x (bit_at c.args.new j)) (bit_at_and c.args.old (255 - c.args.ones) j ∙ ap (min (bit_at c.args.old j)) (bit_at_not w8 c.args.ones j (omega (arith, c.ranges.ones.fits)) h))
