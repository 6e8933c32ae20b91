-- Folds of numbers bit by bit, from how many have a 1.
use Rattle.std.specs.Prelude.{ℕ, ◌%◌, ◌==◌, if◌then◌else◌}
use Rattle.paris_code.specs.declared.operands.Reduction.{Reduction}
use Rattle.paris_code.specs.declared.operands.Reduction.TheVariants as R
use Rattle.reduce_scan.specs.declared.counts.BitFold.{BitFold}
use Rattle.reduce_scan.specs.declared.counts.BitFold.TheVariants as B

-- the fold that is done bit by bit
abbrev pub reduction_of : BitFold → Reduction
reduction_of B.All = R.Logand
reduction_of B.Any = R.Logior
reduction_of B.Odd = R.Logxor

-- the bit of the fold, where so many of all numbers have a 1
abbrev pub folded_bit : BitFold → ℕ → ℕ → ℕ
folded_bit B.All ones all = if ones == all then 1 else 0
folded_bit B.Any ones all = if ones == 0 then 0 else 1
folded_bit B.Odd ones all = ones % 2
