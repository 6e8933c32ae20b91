-- Running sums over the numbers that rows hold.
use Rattle.std.specs.Prelude.{◌≡◌, ℕ, zero, suc, ◌+◌, ◌*◌, ◌/◌, ◌<◌, List, slice_index}
use Rattle.cstar_base.specs.declared.operators.Inclusion.{Inclusion}
use Rattle.cstar_base.specs.declared.operators.Inclusion.TheVariants as N
use Rattle.bit_planes.specs.declared.plane.Plane.{Plane}
use Rattle.bit_planes.specs.Rows.{held}
use Rattle.reduce_scan.specs.declared.words.Run.{Run}
use Rattle.reduce_scan.specs.WithinBlocks.{run_to, run_word}

-- the sum of so many numbers, from one on
abbrev pub sum_from : (ℕ → ℕ) → ℕ → ℕ → ℕ
sum_from f from zero = 0
sum_from f from (suc n) = sum_from f from n + f (from + n)

-- how many numbers of its own a lane takes in
abbrev pub owns : Inclusion → ℕ
owns N.Inclusive = 1
owns N.Exclusive = 0

-- of the sums before and behind a lane, the one that it takes
abbrev pub own_of : Inclusion → List ℕ → List ℕ → List ℕ
own_of N.Inclusive before behind = behind
own_of N.Exclusive before behind = before

-- the first of the 32 lanes among which lane i is
abbrev pub row_start : ℕ → ℕ
row_start i = 32 * (i / 32)

-- a run goes over the numbers of the old rows, the new ones hold what it gives them, and it ends with a total
pub record HasRun (run : Run) (old new : List Plane) (total : ℕ) : Type 0 where
  pub words : List ℕ
  pub are : (i : ℕ) → i < 512 → slice_index words i ≡ held old i
  pub given : (i : ℕ) → i < 512 → held new i ≡ run_word run words i
  pub ends : total ≡ run_to run words 512
