use Rattle.std.proofs.Common.{◌+◌, ◌%◌, min, ap, ◌∙◌}
use Rattle.bit_planes.specs.Bits.{bit}
use Rattle.bit_planes.proofs.Words.{bit-lt}
use Rattle.lane_kernels.proofs.BitTables.{carry_gate}
use Rattle.lane_kernels.proofs.gates.carry_bit.Goals as goal

pub returns : goal.returns
returns c = λ i h. c.differ-3.ensures i h
    ∙ ap (λ n. (bit c.args.c i + n) % 2) (c.both.ensures i h ∙ ap (λ n. min n (bit c.differ-2.result i)) (c.differ.ensures i h) ∙ ap (min ((bit c.args.a i + bit c.args.c i) % 2)) (c.differ-2.ensures i h))
    ∙ carry_gate (bit c.args.a i) (bit c.args.b i) (bit c.args.c i) (bit-lt c.args.a i) (bit-lt c.args.b i) (bit-lt c.args.c i)
