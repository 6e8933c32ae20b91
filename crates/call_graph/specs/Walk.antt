-- The walk that finds the groups of a graph.
use Rattle.std.specs.Prelude.{◌≡◌, ℕ, ◌+◌, ◌-◌, ◌<◌, ◌≤◌, ◌↔◌, ◌⊎◌, List, [], ◌∷◌, length, min, slice_get, Option, Some, None}
use Rattle.call_graph.specs.declared.walk.Place.{Place}
use Rattle.call_graph.specs.declared.walk.Place.TheVariants.{New, Open, Grouped}
use Rattle.call_graph.specs.declared.walk.Visit.{Visit}
use Rattle.cstar_tree.specs.Headers.{Leads}

abbrev pub list_at : Option (List ℕ) → ℕ → Option ℕ
list_at None i = None
list_at (Some called) i = slice_get called i

-- the node to which the i-th call of a node goes
abbrev pub step_at : List (List ℕ) → ℕ → ℕ → Option ℕ
step_at calls node i = list_at (slice_get calls node) i

-- what the walk has come to, and what leads back no lower than to this number
abbrev pub IsPast : ℕ → Option Place → Type 0
IsPast least None = Unit {0}
IsPast least (Some New) = ⊥
IsPast least (Some (Open number)) = least ≤ number
IsPast least (Some (Grouped root)) = Unit {0}

-- what the walk is past stays so
abbrev pub Moves : List Place → List Place → Type 0
Moves old new = (least node : ℕ) → IsPast least (slice_get old node) → IsPast least (slice_get new node)

-- A visit, and the open nodes behind it up to an end: they lead back to its node, which leads to
-- its lowest number, and all that they call is past that number.
pub record IsVisit (calls : List (List ℕ)) (places : List Place) (open_nodes : List ℕ) (end : ℕ) (v : Visit) : Type 0 where
  pub stands : slice_get open_nodes v.number ≡ Some v.node
  pub within : v.number < end
  pub falls : v.lowest ≤ v.number
  pub low : (node : ℕ) → slice_get open_nodes v.lowest ≡ Some node → Leads calls v.node node
  pub back : (number node : ℕ) → v.number < number → number < end → slice_get open_nodes number ≡ Some node → Leads calls node v.node
  pub done : (number node i called : ℕ) → v.number < number → number < end → slice_get open_nodes number ≡ Some node → step_at calls node i ≡ Some called → IsPast v.lowest (slice_get places called)
  pub begun : (i called : ℕ) → i < v.next → step_at calls v.node i ≡ Some called → IsPast v.lowest (slice_get places called)

-- the way of the walk, its present node first
abbrev pub IsWay : List (List ℕ) → List Place → List ℕ → ℕ → List Visit → Type 0
IsWay calls places open_nodes end [] = end ≡ 0
IsWay calls places open_nodes end (v ∷ rest) = IsVisit calls places open_nodes end v × IsWay calls places open_nodes v.number rest

-- the walk between two steps
pub record IsWalk (calls : List (List ℕ)) (places : List Place) (open_nodes : List ℕ) (way : List Visit) : Type 0 where
  pub sized : length places ≡ length calls
  pub rises : (m n f g : ℕ) → m ≤ n → slice_get open_nodes m ≡ Some f → slice_get open_nodes n ≡ Some g → Leads calls f g
  pub number : (node n : ℕ) → slice_get places node ≡ Some (Open n) → slice_get open_nodes n ≡ Some node
  pub node : (node n : ℕ) → slice_get open_nodes n ≡ Some node → slice_get places node ≡ Some (Open n)
  pub closed : (node root i called : ℕ) → slice_get places node ≡ Some (Grouped root) → step_at calls node i ≡ Some called → (least : ℕ) → IsPast least (slice_get places called)
  pub rooted : (node root : ℕ) → slice_get places node ≡ Some (Grouped root) → slice_get places root ≡ Some (Grouped root)
  pub grouped : (f g m n : ℕ) → slice_get places f ≡ Some (Grouped m) → slice_get places g ≡ Some (Grouped n) → (m ≡ n) ↔ (Leads calls f g × Leads calls g f)
  pub way_on : IsWay calls places open_nodes (length open_nodes) way

-- how many steps the visit of a node takes
abbrev pub left_in : Option (List ℕ) → ℕ → ℕ
left_in None next = 1
left_in (Some called) next = length called - next + 1

-- the steps that are left on a way
unfoldable pub way_left : List (List ℕ) → List Visit → ℕ
way_left calls [] = 0
way_left calls (v ∷ rest) = left_in (slice_get calls v.node) v.next + way_left calls rest

-- the steps that new nodes will take
unfoldable pub left_over : List (List ℕ) → List Place → ℕ
left_over [] places = 0
left_over (called ∷ calls) [] = 0
left_over (called ∷ calls) (New ∷ places) = length called + 2 + left_over calls places
left_over (called ∷ calls) (Open n ∷ places) = left_over calls places
left_over (called ∷ calls) (Grouped n ∷ places) = left_over calls places

-- the nodes without a group get one from a number on, and no other place changes
pub record Closes (open_nodes : List ℕ) (number root : ℕ) (old new : List Place) : Type 0 where
  pub same_length : length new ≡ length old
  pub shut : (n node : ℕ) → number ≤ n → slice_get open_nodes n ≡ Some node → slice_get new node ≡ Some (Grouped root)
  pub kept : (node : ℕ) → ((n : ℕ) → slice_get old node ≡ Some (Open n) → n < number) → slice_get new node ≡ slice_get old node

-- the present node is known to lead back to a number
abbrev pub lowered_by : ℕ → List Visit → List Visit
lowered_by number [] = []
lowered_by number (v ∷ rest) = record v { lowest = min v.lowest number } ∷ rest

-- a step of the walk, of which fewer are left
pub record Advances (calls : List (List ℕ)) (old : List Place) (way : List Visit) (new : List Place) (open_nodes : List ℕ) (on : List Visit) : Type 0 where
  pub walk : IsWalk calls new open_nodes on
  pub moves : Moves old new
  pub falls : left_over calls new + way_left calls on < left_over calls old + way_left calls way

-- the group of a node that has one
abbrev pub group_at : Place → ℕ
group_at New = 0
group_at (Open number) = 0
group_at (Grouped root) = root

-- the visit with which the walk comes to a node
abbrev pub first_visit : ℕ → ℕ → Visit
first_visit node number = record { node = node; number = number; lowest = number; next = 0 }

-- where a node stands: one that is not in the graph is a group of its own
abbrev pub place_of : ℕ → Option Place → Place
place_of node None = Grouped node
place_of node (Some place) = place

-- a node stands at a place before this one
abbrev pub IsBefore : List ℕ → ℕ → ℕ → Type 0
IsBefore order place node = (earlier : ℕ) × (earlier < place) × (slice_get order earlier ≡ Some node)

-- the nodes that have a group, each once; what one calls in the graph stands before it, or leads to it
pub record IsOrder (calls : List (List ℕ)) (places : List Place) (order : List ℕ) : Type 0 where
  pub has_group : (place node : ℕ) → slice_get order place ≡ Some node → (root : ℕ) × (slice_get places node ≡ Some (Grouped root))
  pub listed : (node root : ℕ) → slice_get places node ≡ Some (Grouped root) → (place : ℕ) × (slice_get order place ≡ Some node)
  pub once : (m n node : ℕ) → slice_get order m ≡ Some node → slice_get order n ≡ Some node → m ≡ n
  pub behind : (place node i called : ℕ) → slice_get order place ≡ Some node → step_at calls node i ≡ Some called → called < length calls → IsBefore order place called ⊎ Leads calls called node
