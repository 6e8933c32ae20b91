use Rattle.std.proofs.Common.{◌∙◌, ◌%◌, ◌^◌, ap, sym}
use Rattle.bit_planes.specs.Planes.{number}
use Rattle.bit_planes.proofs.Planes.{number-lt}
use Rattle.lane_kernels.specs.Kernels.{operand_of}
use Rattle.lane_kernels.proofs.Arithmetic.{mod_small}
use Rattle.lane_kernels.proofs.in_place.read.Goals as goal

pub returns-in-Field : goal.returns-in-Field
returns-in-Field c = λ i ib.
    ap (λ n. n % 2 ^ c.args.len) (c.read.ensures i ib)
    ∙ mod_small (number c.args.planes.now c.in-Field.offset c.args.len i) (2 ^ c.args.len) (number-lt c.args.planes.now c.in-Field.offset c.args.len i)
    ∙ ap (λ a. operand_of a c.args.planes.now c.args.len i) (sym c.in-Field.is)
