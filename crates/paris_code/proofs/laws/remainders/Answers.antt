use Rattle.std.proofs.Common.{refl}
use Rattle.cstar_base.specs.Numbers.{residue, number_of}
use Rattle.cstar_base.specs.Operators.{outcome, operand, remainder_of, modulus_of, quotient_of, floor_rem}
use Rattle.paris_code.proofs.laws.remainders.Goals as goal

pub returns : goal.returns
unfolding outcome operand remainder_of modulus_of quotient_of floor_rem residue number_of
returns c = record { rem_of_negative = refl; rem_by_negative = refl; mod_of_negative = refl; mod_by_negative = refl; quotient_of_negative = refl; by_zero = refl }
