use Rattle.std.proofs.Common.{◌∙◌, sym, ap, Bool, cond, w64}
use Rattle.std.proofs.lemmas.Nat.Bits.{bit_at_set_same, bit_at_set_other, bit_at_clear_same, bit_at_clear_other}
use Rattle.bit_planes.proofs.plane.with_bit.Goals as goal

pub returns-then-one-clause-bit : goal.returns-then-one-clause-bit
returns-then-one-clause-bit c = bit_at_set_same w64 c.args.word c.args.at c.requires ∙ sym (ap (λ (b : Bool). cond b 1 0) c.if-one.true)

pub returns-then-one-clause-others : goal.returns-then-one-clause-others
returns-then-one-clause-others c = λ j h n. bit_at_set_other w64 c.args.word c.args.at c.requires j n

pub returns-else-one-clause-bit : goal.returns-else-one-clause-bit
returns-else-one-clause-bit c = bit_at_clear_same w64 c.args.word c.args.at c.requires ∙ sym (ap (λ (b : Bool). cond b 1 0) c.if-one.false)

pub returns-else-one-clause-others : goal.returns-else-one-clause-others
returns-else-one-clause-others c = λ j h n. bit_at_clear_other w64 c.args.word c.args.at c.requires j h n
