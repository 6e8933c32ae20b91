-- The machine's scan is the language's.
use Rattle.std.specs.Prelude.{◌≡◌, ℕ, ◌<◌, Bool, true, false, not, List, length, Option}
use Rattle.vp_sets.specs.Positions.{are_positive}
use Rattle.cstar_base.specs.declared.operators.Combiner.TheVariants as C
use Rattle.cstar_base.specs.declared.operators.SegmentMode.{SegmentMode}
use Rattle.cstar_base.specs.declared.operators.SegmentMode.TheVariants as M
use Rattle.lower_base.specs.Operators.{scan_fold_of}
use Rattle.paris_code.specs.declared.operands.Field.{Field}
use Rattle.paris_code.specs.Memory.{BitMemory, processors}
use Rattle.paris_code.specs.Scanning.{ScanOf, bit_is_one}
use Rattle.paris_code.specs.Scanning as Machine
use Rattle.paris_code.specs.Shapes.{SetShape, extents_at}
use Rattle.source_meaning.specs.Scans.{Scan}
use Rattle.source_meaning.specs.Scans as Language
use Rattle.communication_laws.specs.Holding.{HasActive, HasNumbers}

-- what the instruction of a scan is of: a field with the values, and the bit that begins segments
abbrev pub scan_of_field : Scan → Field → Option Field → ScanOf
scan_of_field scan source bit = record {
  combiner = scan_fold_of scan.combiner (not scan.unsigned);
  source = source;
  axis = scan.axis;
  direction = scan.direction;
  mode = scan.mode;
  bit = bit;
  inclusion = scan.inclusion;
}

-- does the bit count at a position that is active or not
abbrev pub bit_counts : SegmentMode → Bool → Bool
bit_counts M.NoSegments active = false
bit_counts M.StartBit active = active
bit_counts M.SegmentBit active = true

-- where it counts, the bit is 1 where the scan's is
abbrev pub HasBits : List SetShape → BitMemory → ℕ → Scan → Option Field → Type 0
HasBits shapes m set scan bit = (p : ℕ) → p < processors shapes set → bit_counts scan.mode (scan.active p) ≡ true → bit_is_one m bit p ≡ scan.bit p

-- Where the field has the values at the active positions, the machine's scan at an active position is the language's.
abbrev pub ScansAreTheLanguages : Type 0
ScansAreTheLanguages =
    (shapes : List SetShape) (m : BitMemory) (scan : Scan) (source : Field) (bit : Option Field) (value : ℕ → ℕ)
    → extents_at shapes source.set ≡ scan.extents → are_positive scan.extents ≡ true → scan.axis < length scan.extents → (scan.combiner ≡ C.Last → ⊥)
    → HasActive shapes m source.set scan.active → HasNumbers shapes m source scan.active value → HasBits shapes m source.set scan bit
    → (p : ℕ) → p < processors shapes source.set → scan.active p ≡ true
    → Machine.scanned shapes m (scan_of_field scan source bit) p ≡ Language.scanned scan value p
