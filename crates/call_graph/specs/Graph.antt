-- Graphs of calls, and the groups of nodes that lead to each other.
use Rattle.std.specs.Prelude.{◌≡◌, ℕ, ◌<◌, ◌↔◌, ◌⊎◌, List, length, map, slice_get, slice_index, Some}
use Rattle.std.specs.Global.{Vec}
use Rattle.cstar_tree.specs.Headers.{Leads}

-- the nodes that each node calls
abbrev pub Successors : List (Vec ℕ) → List (List ℕ)
Successors graph = map (λ (successors : Vec ℕ). successors.items) graph

-- two nodes have one group exactly where each leads to the other
abbrev pub AreGroups : List (List ℕ) → List ℕ → Type 0
AreGroups calls groups =
    (f g : ℕ) → f < length calls → g < length calls → (slice_index groups f ≡ slice_index groups g) ↔ (Leads calls f g × Leads calls g f)

-- all nodes, each once, where what one calls stands before it or leads back to it
pub record AreCalleesFirst (calls : List (List ℕ)) (order : List ℕ) : Type 0 where
  pub within : (place node : ℕ) → slice_get order place ≡ Some node → node < length calls
  pub all : (node : ℕ) → node < length calls → (place : ℕ) × (slice_get order place ≡ Some node)
  pub once : (m n node : ℕ) → slice_get order m ≡ Some node → slice_get order n ≡ Some node → m ≡ n
  pub behind : (place f i g : ℕ) (called : List ℕ) → slice_get order place ≡ Some f → slice_get calls f ≡ Some called → slice_get called i ≡ Some g → g < length calls
      → ((earlier : ℕ) × (earlier < place) × (slice_get order earlier ≡ Some g)) ⊎ Leads calls g f
