-- What is answered for a part of a file that has no type.
use Rattle.std.specs.Prelude.{◌≡◌, ℕ, Option, Some, None, MatchOption, Result, Ok, Err}
use Rattle.cstar_base.specs.declared.faults.Fault.{Fault}
use Rattle.cstar_base.specs.declared.operators.Place.{Place}
use Rattle.cstar_tree.specs.ExpressionFaults.{IsAway}
use Rattle.type_scopes.specs.declared.faults.Untyped.{Untyped}
use Rattle.type_scopes.specs.declared.faults.Untyped.TheVariants as U
use Rattle.type_scopes.specs.declared.standing.Standing.{Standing}
use Rattle.type_scopes.specs.Faults.{lesser, told}

-- the fault that stands at the part, and where
abbrev pub told_by : Untyped → Option (Fault × Place)
told_by (U.Fault standing) = Some (told standing)
told_by U.Faulty = None
told_by U.Memory = None

-- a parallel value stands at a place away from its shape
pub record TellsAway (current shape : Option ℕ) (p : Place) (u : Untyped) : Type 0 where
  pub of : ℕ
  pub fault : Fault
  pub is_parallel : shape ≡ Some of
  pub away : IsAway current of fault
  pub tells : told_by u ≡ Some (fault, p)

-- the part that is answered, or nothing where it has no type
abbrev pub part_of : {A : Type 0} → Result A Untyped → Option A
part_of (Ok part) = Some part
part_of (Err u) = None

-- the least fault once a part is settled: the fault that stands at it is recorded
abbrev pub IsRecorded : Option Standing → Untyped → Option Standing → Type 0
IsRecorded old (U.Fault standing) new = MatchOption new ⊥ (λ least. told least ≡ lesser old standing.fault standing.place)
IsRecorded old U.Faulty new = new ≡ old
IsRecorded old U.Memory new = ⊥

abbrev pub IsSettled : {A : Type 0} → Option Standing → Result A Untyped → Option Standing → Type 0
IsSettled old (Ok part) new = new ≡ old
IsSettled old (Err u) new = IsRecorded old u new
