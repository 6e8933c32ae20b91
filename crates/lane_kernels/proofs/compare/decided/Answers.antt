use Rattle.std.proofs.Common.{ap, cond, nat_eq, ◌∙◌}
use Rattle.bit_planes.specs.Bits.{bit}
use Rattle.bit_planes.proofs.Words.{bit-lt}
use Rattle.lane_kernels.proofs.BitTables.{decided_gate}
use Rattle.lane_kernels.proofs.compare.decided.Goals as goal

pub returns : goal.returns
returns c = λ i h. c.choose.ensures i h ∙ ap (λ n. cond (nat_eq n 1) (bit c.args.y i) (bit c.args.below i)) (c.differ.ensures i h)
    ∙ decided_gate (bit c.args.x i) (bit c.args.y i) (bit c.args.below i) (bit-lt c.args.x i) (bit-lt c.args.y i)
