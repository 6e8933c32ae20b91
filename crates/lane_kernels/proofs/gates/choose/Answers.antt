use Rattle.std.proofs.Common.{min, ap, ◌∙◌, ◌+◌, ◌%◌}
use Rattle.bit_planes.specs.Bits.{bit}
use Rattle.bit_planes.proofs.Words.{bit-lt}
use Rattle.lane_kernels.proofs.BitTables.{choice_gate}
use Rattle.lane_kernels.proofs.gates.choose.Goals as goal

pub returns : goal.returns
returns c = λ i h. c.differ-2.ensures i h ∙ ap (λ n. (bit c.args.b i + n) % 2) (c.both.ensures i h ∙ ap (min (bit c.args.mask i)) (c.differ.ensures i h))
    ∙ choice_gate (bit c.args.mask i) (bit c.args.a i) (bit c.args.b i) (bit-lt c.args.mask i) (bit-lt c.args.a i) (bit-lt c.args.b i)
