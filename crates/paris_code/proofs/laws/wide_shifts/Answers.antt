use Rattle.std.proofs.Common.{refl}
use Rattle.cstar_base.specs.Numbers.{residue, number_of}
use Rattle.cstar_base.specs.Operators.{outcome, operand, shifted_left, shifted_right}
use Rattle.paris_code.proofs.laws.wide_shifts.Goals as goal

pub returns : goal.returns
unfolding outcome operand shifted_left shifted_right residue number_of
returns c = record { left = refl; unsigned_right = refl; signed_right = refl }
