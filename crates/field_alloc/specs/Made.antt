-- Where an instruction makes an entry: it writes the entry and reads it nowhere, with it begins a span
-- in which the entry is in use, and one behind it names the entry again. What stood in the bits before
-- is not asked for again, so they can be those of a field that the instruction still reads.
use Rattle.std.specs.Prelude.{◌≡◌, ◌≢◌, ◌⊎◌, ℕ, ◌<◌, ◌≤◌, List, ◌∷◌, All, Bool, Option, Some, None}
use Rattle.paris_code.specs.declared.instr.Instr.{Instr}
use Rattle.paris_code.specs.declared.instr.Instr.TheVariants as I
use Rattle.paris_code.specs.declared.operands.Field.{Field}
use Rattle.paris_code.specs.declared.program.Owner.TheVariants as O
use Rattle.paris_code.specs.declared.program.Unit.{Unit as CodeUnit}
use Rattle.paris_code.specs.Spans.{IsInUse, IsNamedAt, StandsAt, entry_of, fields_of}
use Rattle.paris_code.specs.Spans.{Span as Stretch}
use Rattle.field_alloc.specs.declared.spans.Span.{Span}
use Rattle.field_alloc.specs.Lasting.{IsClosed, LastsBy, LastsThrough}
use Rattle.field_alloc.specs.Lent.{HasFlag}
use Rattle.field_alloc.specs.Sweep.{HeldBy, Holds}

-- the field that an instruction of the phases gives its results, whatever stands there before
abbrev pub made_by : Instr → Option Field
made_by (I.Move signed dest source) = Some dest
made_by (I.MoveConstant dest value) = Some dest
made_by (I.MoveZeroAlways dest) = Some dest
made_by (I.MoveAlways dest source) = Some dest
made_by (I.MyNewsCoordinate dest axis) = Some dest
made_by (I.MakeAddress dest set coordinates) = Some dest
made_by (I.Operate op dest left right) = Some dest
made_by (I.OperateConstant op dest left right) = Some dest
made_by (I.Negate dest source) = Some dest
made_by (I.Lognot dest source) = Some dest
made_by (I.StoreTest dest) = Some dest
made_by (I.StoreContext dest) = Some dest
made_by (I.GetFromNews dest source axis by) = Some dest
made_by (I.GetFromNewsAlways dest source axis by) = Some dest
made_by (I.Get dest address source) = Some dest
made_by (I.Scan combiner dest source axis direction mode bit way) = Some dest
made_by _ = None

-- an instruction writes an entry and reads it nowhere
pub record WritesOnly (instr : Instr) (entry : ℕ) : Type 0 where
  pub dest : Field
  pub rest : List Field
  pub makes : made_by instr ≡ Some dest
  pub fields : fields_of instr ≡ dest ∷ rest
  pub is : entry_of dest ≡ entry
  pub once : All (λ f. entry_of f ≢ entry) rest

abbrev pub IsOnlyWritten : CodeUnit → ℕ → ℕ → Type 0
IsOnlyWritten unit entry at = (instr : Instr) × StandsAt unit at instr × WritesOnly instr entry

-- an entry is made at an instruction, and named again behind it; so it is in use there
pub record IsMade (unit : CodeUnit) (entry at : ℕ) : Type 0 where
  pub written : IsOnlyWritten unit entry at
  pub span : Stretch
  pub in_use : IsInUse unit entry O.Own span
  pub begins : span.first ≡ at
  pub again : (later : ℕ) × (at < later) × IsNamedAt unit entry later

-- it lasts through an instruction, and is not made there
abbrev pub IsHeldThrough : CodeUnit → ℕ → ℕ → Type 0
IsHeldThrough unit entry at = LastsThrough unit entry at × (IsMade unit entry at → ⊥)

-- the instruction that first names the entry writes it only, and is not the last that names it
abbrev pub IsFirstWritten : CodeUnit → Option Span → ℕ → Type 0
IsFirstWritten unit None entry = ⊥
IsFirstWritten unit (Some span) entry = IsOnlyWritten unit entry span.first × (span.first < span.last)

-- a closed span round this one begins with it at the instruction, and goes on
abbrev pub BeginsAt : List Span → Option Span → ℕ → Type 0
BeginsAt loops None at = ⊥
BeginsAt loops (Some span) at = (span.first ≡ at) × ((wide : Span) × (wide.first ≡ at) × (at < wide.last) × (span.last ≤ wide.last) × IsClosed loops wide)

-- the span of an entry that is named in this one: the whole unit where it is lent, and else one that
-- holds each instruction that the entry lasts through, but one that makes it
pub record IsUse (lent made : List Bool) (whole : Span) (loops : List Span) (named : Option Span) (entry : ℕ) (span : Option Span) : Type 0 where
  pub is_lent : HasFlag lent entry → span ≡ Some whole
  pub held : (at : ℕ) → Holds whole at → LastsBy loops named at → HeldBy span at ⊎ (HasFlag made entry × BeginsAt loops named at)
