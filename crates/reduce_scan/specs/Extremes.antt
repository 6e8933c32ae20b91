-- The least and the greatest of numbers, bit by bit from the highest one.
use Rattle.std.specs.Prelude.{ℕ, ◌==◌, ◌&&◌, not, Bool, true, false, if◌then◌else◌}
use Rattle.paris_code.specs.declared.operands.Reduction.{Reduction}
use Rattle.paris_code.specs.declared.operands.Reduction.TheVariants as R

-- the fold to the greatest number or the least, of numbers with a sign or without one
abbrev pub extreme_of : Bool → Bool → Reduction
extreme_of false false = R.SMin
extreme_of false true = R.UMin
extreme_of true false = R.SMax
extreme_of true true = R.UMax

-- whether the number has a 1, rather than a 0, at the n-th bit from the highest one, where it can
abbrev pub wants_one : Bool → Bool → ℕ → Bool
wants_one greatest unsigned n = if n == 0 && not unsigned then not greatest else greatest
