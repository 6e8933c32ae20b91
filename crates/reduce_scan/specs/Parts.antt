-- The parts of a scan: 512 places each, in line order.
use Rattle.std.specs.Prelude.{◌≡◌, ℕ, zero, suc, ◌+◌, ◌-◌, ◌*◌, ◌%◌, ◌^◌, ◌<◌, ◌≤◌, ◌==◌, ◌&&◌, ◌||◌, Bool, false, nat_lt, min, List, [], map, length, Option, Some, None, IfSome, slice_index, slice_index_or}
use Rattle.cstar_base.specs.Folds.{identity_of}
use Rattle.cstar_base.specs.Orders.{any_of}
use Rattle.bit_planes.specs.declared.block.Block.{Block}
use Rattle.paris_code.specs.declared.operands.Field.{Field}
use Rattle.paris_code.specs.declared.operands.Reduction.{Reduction}
use Rattle.paris_code.specs.Memory.{run_number}
use Rattle.paris_code.specs.Operators.{combiner_of}
use Rattle.paris_code.specs.Scanning.{parts}
use Rattle.phase_meaning.specs.Apply.{looked_at}
use Rattle.block_store.specs.declared.set.Cell.{Cell}
use Rattle.block_store.specs.Planes.{HasPlanes, block_bit}
use Rattle.block_store.specs.Stored.{words_in}
use Rattle.reduce_scan.specs.declared.lines.Lines.{Lines}
use Rattle.reduce_scan.specs.declared.lines.Scan.{Scan}
use Rattle.reduce_scan.specs.Order.{position_at}
use Rattle.reduce_scan.specs.Running.{running, handed_on}

-- lines of at least one position, whose steps and lines fill the positions
pub record AreLines (lines : Lines) : Type 0 where
  pub some : 0 < lines.extent
  pub apart : 0 < lines.apart
  pub few : lines.positions ≤ 2 ^ 20
  pub rows : ℕ
  pub filled : lines.positions ≡ rows * (lines.extent * lines.apart)

-- a field that lies below the flags of a block
abbrev pub FitsBelow : ℕ → Field → Type 0
FitsBelow context f = (1 ≤ f.len) × (f.len ≤ 32) × (f.offset + f.len ≤ context)

-- the source is a word and the bit is one, below the flags of a block
pub record FieldsFit (scan : Scan) : Type 0 where
  pub source : FitsBelow scan.context scan.source
  pub word : scan.source.len ≡ 32
  pub bit : IfSome (looked_at scan.mode scan.bit) (λ f. FitsBelow scan.context f × (f.len ≡ 1))

-- the blocks hold the positions, and the fields of the scan
pub record CanScan (blocks : List Block) (scan : Scan) (lines : Lines) : Type 0 where
  pub are_lines : AreLines lines
  pub much : lines.positions ≤ 512 * length blocks
  pub planes : HasPlanes (scan.context + 1) blocks
  pub fields : FieldsFit scan

-- the position at a place, and what it holds
abbrev pub ordered_at : Lines → ℕ → ℕ
ordered_at lines q = position_at lines.direction lines.extent lines.apart q

abbrev pub active_there : List Block → Scan → ℕ → Bool
active_there blocks scan p = block_bit blocks p scan.context == 1

abbrev pub value_there : List Block → Scan → ℕ → ℕ
value_there blocks scan p = run_number (block_bit blocks p) scan.source.offset scan.source.len

abbrev pub bit_there : List Block → Option Field → ℕ → Bool
bit_there blocks None p = false
bit_there blocks (Some f) p = run_number (block_bit blocks p) f.offset f.len == 1

abbrev pub begins_there : List Block → Scan → Lines → ℕ → ℕ → Bool
begins_there blocks scan lines first second =
    parts scan.mode lines.direction (bit_there blocks scan.bit first) (bit_there blocks scan.bit second) (active_there blocks scan second)

-- a line or a segment begins at a place
abbrev pub cut_there : List Block → Scan → Lines → ℕ → Bool
cut_there blocks scan lines q =
    nat_lt q lines.positions && (q % lines.extent == 0 || begins_there blocks scan lines (ordered_at lines (q - 1)) (ordered_at lines q))

-- the fold before place i of part k, from a start, and whether a line or a segment begins on the way
abbrev pub part_fold : List Block → Scan → Lines → ℕ → ℕ → ℕ → ℕ
part_fold blocks scan lines k start i =
    running scan.combiner (λ j. cut_there blocks scan lines (512 * k + j)) (λ j. active_there blocks scan (ordered_at lines (512 * k + j)))
    (λ j. value_there blocks scan (ordered_at lines (512 * k + j))) start i

-- the fold before place q from the first place on
abbrev pub fold_there : List Block → Scan → Lines → ℕ → ℕ
fold_there blocks scan lines q =
    running scan.combiner (λ j. cut_there blocks scan lines j) (λ j. active_there blocks scan (ordered_at lines j))
    (λ j. value_there blocks scan (ordered_at lines j)) (identity_of (combiner_of scan.combiner).0 (combiner_of scan.combiner).1) q

abbrev pub part_begins : List Block → Scan → Lines → ℕ → ℕ → Bool
part_begins blocks scan lines k i = any_of (λ j. cut_there blocks scan lines (512 * k + j)) 1 i

-- the places of part k
abbrev pub part_size : Lines → ℕ → ℕ
part_size lines k = min 512 (lines.positions - 512 * k)

-- a part is folded from the identity: the first word is the fold behind its last place, and the second one says whether a line or
-- a segment begins in it
pub record IsFolded (blocks : List Block) (scan : Scan) (lines : Lines) (k : ℕ) (words : List ℕ) : Type 0 where
  pub tail : slice_index words 0 ≡ part_fold blocks scan lines k (identity_of (combiner_of scan.combiner).0 (combiner_of scan.combiner).1) (part_size lines k)
  pub begins : (slice_index words 1 == 1) ≡ part_begins blocks scan lines k (part_size lines k)

abbrev pub word_of_cell : List Cell → ℕ → ℕ → ℕ
word_of_cell cells k i = slice_index (slice_index_or (map words_in cells) k []) i

-- the fold with which a part begins, from the folds of the parts before it and whether something begins in them
unfoldable pub starts : Reduction → List Cell → ℕ → ℕ
starts c cells zero = identity_of (combiner_of c).0 (combiner_of c).1
starts c cells (suc k) = handed_on c (word_of_cell cells k 1 == 1) (starts c cells k) (word_of_cell cells k 0)
