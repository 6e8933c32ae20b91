use Rattle.std.proofs.Common.{ℕ}
use Rattle.std.specs.Int.Bits.{bit_or, or_self}
use Rattle.lane_kernels.specs.Kernels.{operand_of}
use Rattle.lane_kernels.proofs.Lifted.{same_change}
use Rattle.lane_kernels.proofs.in_place.assign.Goals as goal

pub returns : goal.returns
returns c = let x = λ (i : ℕ). operand_of c.args.a.now c.args.planes.now c.args.to.now.len i in
    same_change c.args.to.now (λ i. bit_or (x i) (x i)) x c.args.planes.now c.bitwise.new.planes (λ i _. or_self (x i)) c.bitwise.ensures
