-- Chains of calls between units.
use Rattle.std.specs.Prelude.{◌≡◌, ℕ, zero, suc, ◌<◌, ◌≤◌, ◌↔◌, Bool, List, length, Contains}
use Rattle.image_check.specs.declared.chains.Call.{Call}
use Rattle.image_check.specs.Marks.{IsMarked}

-- a chain of so many of the calls leads from one unit to another
abbrev pub Chain : List Call → ℕ → ℕ → ℕ → Type 0
Chain calls zero from to = from ≡ to
Chain calls (suc count) from to =
    (call : Call) × Contains calls call × (call.to ≡ to) × Chain calls count from call.from

-- each call is made by one of so many units
abbrev pub AreMadeBy : ℕ → List Call → Type 0
AreMadeBy units calls = (call : Call) → Contains calls call → call.from < units

-- of so many units those have a mark for which it holds
abbrev pub AreMarks : ℕ → List Bool → (ℕ → Type 0) → Type 0
AreMarks units marks holds =
    (length marks ≡ units) × ((unit : ℕ) → unit < units → IsMarked marks unit ↔ holds unit)

-- a chain of so many calls leads to the unit from one with a mark
abbrev pub IsBehind : List Call → List Bool → ℕ → ℕ → Type 0
IsBehind calls marks count unit = (from : ℕ) × IsMarked marks from × Chain calls count from unit

-- a chain of calls leads to the unit from one with a mark
abbrev pub IsReached : List Call → List Bool → ℕ → Type 0
IsReached calls marks unit = (count : ℕ) × IsBehind calls marks count unit

-- the next marks are at the units that one with a mark calls
pub record AreCalled (calls : List Call) (marks next : List Bool) : Type 0 where
  pub only : (unit : ℕ) → IsMarked next unit → (call : Call) × Contains calls call × (call.to ≡ unit) × IsMarked marks call.from
  pub all : (call : Call) → Contains calls call → IsMarked marks call.from → call.to < length next → IsMarked next call.to

-- a unit that one with a mark calls has a mark too
abbrev pub IsClosed : List Call → List Bool → Type 0
IsClosed calls marks =
    (call : Call) → Contains calls call → IsMarked marks call.from → call.to < length marks → IsMarked marks call.to

-- a chain of so many calls, or of more, leads from unit 0 to the unit
abbrev pub IsDeep : List Call → ℕ → ℕ → Type 0
IsDeep calls depth unit = (count : ℕ) × (depth ≤ count) × Chain calls count 0 unit

-- of so many units those have a mark that lie on a cycle of calls, and maybe others
abbrev pub AreLong : ℕ → List Call → List Bool → Type 0
AreLong units calls marks = (unit count : ℕ) → unit < units → Chain calls (suc count) unit unit → IsMarked marks unit

-- a call lies on no cycle of calls, and ends no chain from unit 0 of more calls than the depth
abbrev pub KeepsCall : List Call → ℕ → Call → Type 0
KeepsCall calls depth call =
    ((count : ℕ) → ¬ Chain calls count call.to call.from)
    × ((count : ℕ) → Chain calls count 0 call.from → count < depth)
