-- What instances call, and an order in which those that are called come first.
use Rattle.std.specs.Prelude.{◌≡◌, ◌<◌, ◌≤◌, ◌↔◌, ℕ, List, [], length, Contains, slice_get, slice_index, Option, Some, None, Vec}
use Rattle.std.specs.declared.alloc.Global.{Global}
use Rattle.cstar_tree.specs.declared.typed.Instance.{Instance}
use Rattle.cstar_tree.specs.Headers.{Leads}
use Rattle.cstar_tree.specs.TypedParts.{calls_within}

abbrev pub numbers_in : Option (Vec ℕ Global) → List ℕ
numbers_in None = []
numbers_in (Some numbers) = numbers.items

-- there is for each instance a list of just the numbers that its body calls
pub record HasCalls (instances : List Instance) (called : List (Vec ℕ Global)) : Type 0 where
  pub as_many : length called ≡ length instances
  pub just : (number callee : ℕ) (i : Instance) → slice_get instances number ≡ Some i → Contains (calls_within i.body) callee ↔ Contains (numbers_in (slice_get called number)) callee

-- none that is called leads back to its caller
abbrev pub HasNoCycle : List (List ℕ) → Type 0
HasNoCycle calls = (f g i : ℕ) (called : List ℕ) → slice_get calls f ≡ Some called → slice_get called i ≡ Some g → Leads calls g f → ⊥

-- the numbers of nodes, each behind those that it calls; node 0 is among them
pub record IsCallOrder (called : List (Vec ℕ Global)) (order : List ℕ) : Type 0 where
  pub behind : (k callee : ℕ) → k < length order → Contains (numbers_in (slice_get called (slice_index order k))) callee → callee < length called → (j : ℕ) × (j < k) × (slice_index order j ≡ callee)
  pub first : 0 < length called → Contains order 0
  pub few : length order ≤ length called
