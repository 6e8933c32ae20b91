use Rattle.std.proofs.Common.{◌*◌, ◌/◌, ◌^◌, ◌∙◌}
use Rattle.cstar_base.proofs.BitCuts.{bit_at-cut, bit_at-shr}
use Rattle.point_bits.proofs.bytes.byte_of.Goals as goal

pub returns : goal.returns
returns c = λ j h. bit_at-cut (c.args.number / 2 ^ (8 * c.args.k)) 8 j h ∙ bit_at-shr c.args.number (8 * c.args.k) j
