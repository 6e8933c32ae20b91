-- How the names of a function and its variables are linked.
use Rattle.std.specs.Prelude.{◌≡◌, ℕ, Bool, false, nat_le, ◌<◌, ◌==◌, List, [], ◌∷◌, map, length, drop, slice_get, slice_index_or, Option, Some, None, Vec, bytes_eq, position, if◌then◌else◌}
use Rattle.std.specs.List.{IsDistinct}
use Rattle.std.specs.Map.{keys_of}
use Rattle.std.specs.declared.alloc.Global.{Global}
use Rattle.type_scopes.specs.declared.locals.Local.{Local}

-- names, each with the newest variable that has it
abbrev pub Slots : Type 0
Slots = List (Vec ℕ Global × Option ℕ)

abbrev pub words_of : Slots → List (List ℕ)
words_of slots = map (λ slot. slot.0.items) slots

-- the newest of the variables with the name of a slot, by how many were declared before it
unfoldable pub newest : List Local → ℕ → Option ℕ
newest [] slot = None
newest (local ∷ older) slot = if local.slot == slot then Some (length older) else newest older slot

-- is a variable, known by how many were declared before it, in a scope?
abbrev pub is_in : ℕ → Option ℕ → Bool
is_in scope None = false
is_in scope (Some k) = nat_le scope k

-- each variable has a slot, and knows the one that it hides
abbrev pub AreLinked : ℕ → List Local → Type 0
AreLinked slots locals = (k : ℕ) (local : Local) → slice_get locals k ≡ Some local → (local.slot < slots) × (local.hidden ≡ newest (drop 1 (drop k locals)) local.slot)

-- each slot knows the newest variable of its name
abbrev pub HaveNewest : Slots → List Local → Type 0
HaveNewest slots locals = (s : ℕ) → s < length slots → slice_get (map (λ slot. slot.1) slots) s ≡ Some (newest locals s)

-- where a name stands among the slots
abbrev pub slot_named : Slots → List ℕ → Option ℕ
slot_named slots word = position (λ key. bytes_eq word key.items) (keys_of slots)

-- this is the slot of a name
abbrev pub IsSlotOf : Slots → List ℕ → ℕ → Type 0
IsSlotOf slots word s = (s < length slots) × (slice_index_or (words_of slots) s [] ≡ word)

-- no two slots have one name
abbrev pub AreDistinct : Slots → Type 0
AreDistinct slots = IsDistinct (λ a b. bytes_eq a.items b.items) (keys_of slots)
