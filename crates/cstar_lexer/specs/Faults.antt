-- The first of the faults that stand somewhere.
use Rattle.std.specs.Prelude.{◌≡◌, ℕ, ◌≤◌}
use Rattle.cstar_base.specs.Faults.{number_of}
use Rattle.cstar_base.specs.declared.faults.Fault.{Fault}

-- This fault stands at this offset, and none at a lesser one; of several at one the least number
-- counts.
pub record IsFirst (Stands : Fault → ℕ → Type 0) (fault : Fault) (offset : ℕ) : Type 0 where
  pub stands : Stands fault offset
  pub first : (other : Fault) (at : ℕ) → Stands other at → offset ≤ at
  pub least : (other : Fault) (at : ℕ) → Stands other at → at ≡ offset → number_of fault ≤ number_of other
