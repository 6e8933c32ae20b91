-- How the combiners fold words of 32 bits, and the results over nothing.
use Rattle.std.specs.Prelude.{ℕ, Bool, not, ◌-◌, ◌^◌, bit_and, bit_or, bit_xor}
use Rattle.cstar_base.specs.Numbers.{residue, least_of, greatest_of}
use Rattle.cstar_base.specs.Operators.{sum_of, lesser_of, greater_of}
use Rattle.cstar_base.specs.declared.operators.Combiner.{Combiner}
use Rattle.cstar_base.specs.declared.operators.Combiner.TheVariants.{Add, And, Or, Xor, Min, Max, Last}

-- one step of a fold: the value so far combined with one more
unfoldable pub fold_once : Combiner → Bool → ℕ → ℕ → ℕ
fold_once Add unsigned acc v = sum_of 32 unsigned acc v
fold_once And unsigned acc v = bit_and acc v
fold_once Or unsigned acc v = bit_or acc v
fold_once Xor unsigned acc v = bit_xor acc v
fold_once Min unsigned acc v = lesser_of 32 unsigned acc v
fold_once Max unsigned acc v = greater_of 32 unsigned acc v
fold_once Last unsigned acc v = v

-- the fold of no value: what changes nothing as the value so far
unfoldable pub identity_of : Combiner → Bool → ℕ
identity_of Add unsigned = 0
identity_of And unsigned = 2 ^ 32 - 1
identity_of Or unsigned = 0
identity_of Xor unsigned = 0
identity_of Min unsigned = residue 32 (greatest_of 32 (not unsigned))
identity_of Max unsigned = residue 32 (least_of 32 (not unsigned))
identity_of Last unsigned = 0
