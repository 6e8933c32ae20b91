-- Through which instructions an entry lasts: those between two that name it, and those of each
-- stretch of a jump back that it does not lie within.
use Rattle.std.specs.Prelude.{◌≡◌, ◌⊎◌, ℕ, ◌<◌, ◌≤◌, List, Bool, Option, Some, None, length}
use Rattle.std.specs.List.{slice_get, slice_index}
use Rattle.paris_code.specs.declared.program.Owner.TheVariants as O
use Rattle.paris_code.specs.declared.program.Unit.{Unit as CodeUnit}
use Rattle.paris_code.specs.Spans.{IsInUse, IsNamedAt, IsStretch}
use Rattle.paris_code.specs.Spans.{Span as Stretch}
use Rattle.field_alloc.specs.declared.spans.Span.{Span}
use Rattle.field_alloc.specs.Lent.{HasFlag}
use Rattle.field_alloc.specs.Sweep.{Holds}

-- the entry is named, and each span in which it is in use holds the instruction
abbrev pub LastsThrough : CodeUnit → ℕ → ℕ → Type 0
LastsThrough unit entry at =
    ((named : ℕ) × IsNamedAt unit entry named) × ((span : Stretch) → IsInUse unit entry O.Own span → (span.first ≤ at) × (at ≤ span.last))

-- the spans have this one
abbrev pub HasSpan : List Span → ℕ → ℕ → Type 0
HasSpan spans first last = (k : ℕ) × (slice_get spans k ≡ Some (record { first = first; last = last }))

-- they have each stretch of a jump back
abbrev pub HaveStretches : CodeUnit → List Span → Type 0
HaveStretches unit loops = (stretch : Stretch) → IsStretch unit stretch → HasSpan loops stretch.first stretch.last

-- if the span meets the stretch, it holds it, or lies within it
abbrev pub IsUncut : Span → Span → Type 0
IsUncut stretch span =
    span.first ≤ stretch.last → stretch.first ≤ span.last → ((span.first ≤ stretch.first) × (stretch.last ≤ span.last)) ⊎ ((stretch.first ≤ span.first) × (span.last ≤ stretch.last))

-- that is so of each stretch
abbrev pub IsClosed : List Span → Span → Type 0
IsClosed loops span = (k : ℕ) (stretch : Span) → slice_get loops k ≡ Some stretch → IsUncut stretch span

-- each closed span round this one, if there is one, holds the instruction
abbrev pub LastsBy : List Span → Option Span → ℕ → Type 0
LastsBy loops None at = ⊥
LastsBy loops (Some span) at = (wide : Span) → wide.first ≤ span.first → span.last ≤ wide.last → IsClosed loops wide → Holds wide at

-- the flags are set where a stretch begins or ends
abbrev pub AreEndFlags : List Span → List Bool → Type 0
AreEndFlags loops ends =
    (k : ℕ) (stretch : Span) → slice_get loops k ≡ Some stretch → (stretch.first < length ends → HasFlag ends stretch.first) × (stretch.last < length ends → HasFlag ends stretch.last)

-- where a stretch begins or ends at an instruction or before, that is below the number of it
abbrev pub AreBehindEnds : List Span → List ℕ → Type 0
AreBehindEnds loops behind =
    (k at : ℕ) (stretch : Span) → slice_get loops k ≡ Some stretch → at < length behind → (stretch.first ≤ at → stretch.first < slice_index behind at) × (stretch.last ≤ at → stretch.last < slice_index behind at)
