-- The least of the faults of typing that stand.
use Rattle.std.specs.Prelude.{◌≡◌, ◌⊎◌, false, Option, Some, None, MatchOption, if◌then◌else◌}
use Rattle.std.specs.Option.{option_map}
use Rattle.cstar_base.specs.declared.faults.Fault.{Fault}
use Rattle.cstar_base.specs.declared.operators.Place.{Place}
use Rattle.cstar_tree.specs.FaultOrder.{comes_before}
use Rattle.type_scopes.specs.declared.standing.Standing.{Standing}

-- which fault stands, and where
abbrev pub told : Standing → Fault × Place
told standing = (standing.fault, standing.place)

-- the lesser of the least fault so far and another one
abbrev pub lesser : Option Standing → Fault → Place → Fault × Place
lesser None fault p = (fault, p)
lesser (Some least) fault p =
    if comes_before fault p least.fault least.place then (fault, p) else told least

-- the least once another one is included, if there is one
abbrev pub IsIncluded : Option Standing → Option Standing → Option Standing → Type 0
IsIncluded old None new = new ≡ old
IsIncluded old (Some other) new = MatchOption new ⊥ (λ least. told least ≡ lesser old other.fault other.place)

-- the least of the faults that stand, or none where none stands
abbrev pub IsLeastOf : (Fault → Place → Type 0) → Option Standing → Type 0
IsLeastOf Stands None = (fault : Fault) (p : Place) → Stands fault p → ⊥
IsLeastOf Stands (Some least) = Stands least.fault least.place × ((fault : Fault) (p : Place) → Stands fault p → comes_before fault p least.fault least.place ≡ false)

-- a fault comes no earlier than the least one
abbrev pub IsCovered : Option Standing → Fault → Place → Type 0
IsCovered None fault p = ⊥
IsCovered (Some least) fault p = comes_before fault p least.fault least.place ≡ false

-- the least is afterwards that of the old one and of all these faults
pub record Records (Stands : Fault → Place → Type 0) (old new : Option Standing) : Type 0 where
  pub covers : (fault : Fault) (p : Place) → Stands fault p → IsCovered new fault p
  pub kept : (fault : Fault) (p : Place) → IsCovered old fault p → IsCovered new fault p
  pub honest : (option_map told new ≡ option_map told old) ⊎ MatchOption new ⊥ (λ least. Stands least.fault least.place)
