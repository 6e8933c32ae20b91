-- The sweep that places the own entries of a unit in one set: each above the earlier ones that share
-- an instruction with it. `length` is that of the unit's code.
use Rattle.std.specs.Prelude.{◌≡◌, ◌≢◌, ◌⊎◌, ℕ, ◌+◌, ◌<◌, ◌≤◌, List, Option, Some, None, length}
use Rattle.std.specs.List.{slice_get, slice_index, slice_index_or}
use Rattle.paris_code.specs.declared.program.Owner.TheVariants as O
use Rattle.paris_code.specs.declared.program.Virtual.{Virtual}
use Rattle.field_alloc.specs.declared.spans.Span.{Span}

abbrev pub Holds : Span → ℕ → Type 0
Holds span at = (span.first ≤ at) × (at ≤ span.last)

-- a span, if there is one, holds an instruction
abbrev pub HeldBy : Option Span → ℕ → Type 0
HeldBy None at = ⊥
HeldBy (Some span) at = Holds span at

-- it ends with the instruction
abbrev pub EndsAt : Option Span → ℕ → Type 0
EndsAt None at = ⊥
EndsAt (Some span) at = span.last ≡ at

-- an own entry of a set, of this length and with this span
pub record IsInSet (fields : List Virtual) (spans : List (Option Span)) (set entry len : ℕ) (span : Span) : Type 0 where
  pub entry_is : slice_get fields entry ≡ Some (record { set = set; len = len; owner = O.Own })
  pub span_is : slice_index_or spans entry None ≡ Some span

-- entries that share an instruction are one above the other
abbrev pub AreStacked : List Virtual → List (Option Span) → ℕ → ℕ → ℕ → List ℕ → Type 0
AreStacked fields spans length set number starts =
    (lower upper len over at : ℕ) (a b : Span) → lower < upper → upper < number → IsInSet fields spans set lower len a → IsInSet fields spans set upper over b → at < length → Holds a at → Holds b at → slice_index starts lower + len ≤ slice_index starts upper

-- none ends above the height at an instruction of its span
abbrev pub AreUnder : List Virtual → List (Option Span) → ℕ → ℕ → ℕ → List ℕ → List ℕ → Type 0
AreUnder fields spans length set number starts heights =
    (entry len at : ℕ) (a : Span) → entry < number → IsInSet fields spans set entry len a → at < length → Holds a at → slice_index starts entry + len ≤ slice_index heights at

-- the heights of no instruction, or of each
abbrev pub AreHeights : ℕ → List ℕ → Type 0
AreHeights size heights = (length heights ≡ 0) ⊎ (length heights ≡ size)

-- the entries of other sets begin where they did
abbrev pub KeepsOthers : List Virtual → ℕ → List ℕ → List ℕ → Type 0
KeepsOthers fields set before starts = (entry : ℕ) (v : Virtual) → slice_get fields entry ≡ Some v → v.set ≢ set → slice_index starts entry ≡ slice_index before entry

-- the entries before one of a number are placed; `before` is where all began before the sweep
pub record IsSwept (fields : List Virtual) (spans : List (Option Span)) (size set number : ℕ) (before starts heights : List ℕ) : Type 0 where
  pub long : length starts ≡ length before
  pub heights_are : AreHeights size heights
  pub others : KeepsOthers fields set before starts
  pub under : AreUnder fields spans size set number starts heights
  pub stacked : AreStacked fields spans size set number starts

-- none of the entries before one of a number ends above the top
abbrev pub AreBelow : List Virtual → List (Option Span) → ℕ → ℕ → List ℕ → ℕ → Type 0
AreBelow fields spans set number starts top =
    (entry len : ℕ) (a : Span) → entry < number → IsInSet fields spans set entry len a → slice_index starts entry + len ≤ top
