-- Scans by the positions of a set, each from the one before it on its line.
use Rattle.std.specs.Prelude.{◌≡◌, ◌≢◌, ℕ, ◌+◌, ◌-◌, ◌*◌, ◌/◌, ◌%◌, ◌<◌, ◌≤◌, ◌==◌, ◌||◌, ◌&&◌, not, nat_lt, Bool, true, false, List, [], map, length, slice_index, slice_index_or, if◌then◌else◌}
use Rattle.vp_sets.specs.Lines.{steps_before}
use Rattle.bit_planes.specs.declared.block.Block.{Block}
use Rattle.bit_planes.specs.Bits.{bit}
use Rattle.block_store.specs.declared.set.Cell.{Cell}
use Rattle.block_store.specs.Stored.{word_at}
use Rattle.cstar_base.specs.Folds.{fold_once, identity_of}
use Rattle.cstar_base.specs.declared.operators.Direction.{Direction}
use Rattle.cstar_base.specs.declared.operators.Direction.TheVariants as D
use Rattle.cstar_base.specs.declared.operators.Inclusion.{Inclusion}
use Rattle.cstar_base.specs.declared.operators.Inclusion.TheVariants as N
use Rattle.cstar_base.specs.declared.operators.SegmentMode.{SegmentMode}
use Rattle.cstar_base.specs.declared.operators.SegmentMode.TheVariants as M
use Rattle.paris_code.specs.declared.operands.Reduction.{Reduction}
use Rattle.paris_code.specs.Operators.{combiner_of}
use Rattle.reduce_scan.specs.declared.lines.Lines.{Lines}
use Rattle.reduce_scan.specs.declared.lines.Scan.{Scan}
use Rattle.reduce_scan.specs.Parts.{active_there, value_there, begins_there}

-- a position is the first one of its line
abbrev pub begins_line : Lines → ℕ → Bool
begins_line lines p = steps_before lines.direction lines.extent (p / lines.apart % lines.extent) == 0

-- the position before one on its line, where there is one
abbrev pub previous : Direction → ℕ → ℕ → ℕ
previous D.Upward apart p = p - apart
previous D.Downward apart p = p + apart

abbrev pub has_previous : Direction → ℕ → ℕ → ℕ → Type 0
has_previous D.Upward apart count p = apart ≤ p
has_previous D.Downward apart count p = p + apart < count

abbrev pub HasPrevious : Lines → ℕ → Type 0
HasPrevious lines p = has_previous lines.direction lines.apart lines.positions p

-- the bit of the position before one says whether a segment begins there
abbrev pub marks_behind : SegmentMode → Direction → Bool
marks_behind M.NoSegments d = false
marks_behind M.StartBit d = false
marks_behind M.SegmentBit D.Upward = false
marks_behind M.SegmentBit D.Downward = true

-- a line or a segment begins at a position
abbrev pub stops_there : List Block → Scan → Lines → ℕ → Bool
stops_there blocks scan lines p = begins_line lines p || begins_there blocks scan lines (previous lines.direction lines.apart p) p

-- the number of a position, and the identity where it is not active
abbrev pub own_there : List Block → Scan → ℕ → ℕ
own_there blocks scan p = if active_there blocks scan p then value_there blocks scan p else identity_of (combiner_of scan.combiner).0 (combiner_of scan.combiner).1

-- a cell holds the numbers of block k, and where a line or a segment begins
pub record Holds (blocks : List Block) (scan : Scan) (lines : Lines) (k : ℕ) (cell : Cell) : Type 0 where
  pub words : (i : ℕ) → i < 512 → slice_index cell.words i ≡ own_there blocks scan (512 * k + i)
  pub cuts : (i : ℕ) → i < 512 → 512 * k + i < lines.positions → (bit cell.cuts.bits i == 1) ≡ stops_there blocks scan lines (512 * k + i)

-- whether a line or a segment begins at a position, as its cell holds it
abbrev pub cuts_of : Cell → List ℕ
cuts_of cell = cell.cuts.bits

unfoldable pub is_held_cut : List Cell → ℕ → Bool
is_held_cut cells p = bit (slice_index_or (map cuts_of cells) (p / 512) []) (p % 512) == 1

-- the word of one position has become a number, and all else is as it was
pub record WordSet (at number : ℕ) (old new : List Cell) : Type 0 where
  pub count : length new ≡ length old
  pub here : word_at new at ≡ number
  pub others : (p : ℕ) → p ≢ at → word_at new p ≡ word_at old p
  pub cuts : (p : ℕ) → is_held_cut new p ≡ is_held_cut old p

-- where nothing begins, the word of a position has been joined to the new one of the position before it
pub record Joined (c : Reduction) (lines : Lines) (old new : List Cell) : Type 0 where
  pub count : length new ≡ length old
  pub words : (p : ℕ) → p < lines.positions → word_at new p
      ≡ (if is_held_cut old p then word_at old p else fold_once (combiner_of c).0 (combiner_of c).1 (word_at new (previous lines.direction lines.apart p)) (word_at old p))
  pub cuts : (p : ℕ) → is_held_cut new p ≡ is_held_cut old p

-- what a position takes of the joined words
unfoldable pub taken_at : Reduction → Inclusion → Lines → List Cell → ℕ → ℕ
taken_at c N.Inclusive lines cells p = word_at cells p
taken_at c N.Exclusive lines cells p =
    if nat_lt p lines.positions && not (is_held_cut cells p) then word_at cells (previous lines.direction lines.apart p) else identity_of (combiner_of c).0 (combiner_of c).1
