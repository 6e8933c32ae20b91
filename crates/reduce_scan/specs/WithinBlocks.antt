-- A scan along lines on which each place is its position, by the planes of one block.
use Rattle.std.specs.Prelude.{ℕ, ◌+◌, ◌*◌, ◌%◌, ◌==◌, ◌&&◌, ◌||◌, nat_lt, Bool, true, false, List, Option, Some, None, slice_index, if◌then◌else◌}
use Rattle.cstar_base.specs.Folds.{fold_once, identity_of}
use Rattle.cstar_base.specs.declared.operators.Direction.TheVariants as D
use Rattle.bit_planes.specs.declared.plane.Plane.{Plane}
use Rattle.bit_planes.specs.Bits.{bit}
use Rattle.bit_planes.specs.Planes.{plane_at, number}
use Rattle.paris_code.specs.declared.operands.Field.{Field}
use Rattle.paris_code.specs.Operators.{combiner_of}
use Rattle.paris_code.specs.Scanning.{parts, with_own}
use Rattle.reduce_scan.specs.declared.lines.Scan.{Scan}
use Rattle.reduce_scan.specs.declared.words.Run.{Run}
use Rattle.reduce_scan.specs.Running.{running}

-- the fold before word n of a run, and what the word takes
abbrev pub run_to : Run → List ℕ → ℕ → ℕ
run_to run words n = running run.combiner (λ j. bit run.cuts (j % 512) == 1) (λ j. true) (λ j. slice_index words j) run.start n

abbrev pub run_word : Run → List ℕ → ℕ → ℕ
run_word run words i =
    with_own run.inclusion (λ t. fold_once (combiner_of run.combiner).0 (combiner_of run.combiner).1 t (slice_index words i)) (run_to run words i)

-- what lane i holds
abbrev pub active_in : List Plane → Scan → ℕ → Bool
active_in planes scan i = bit (plane_at planes scan.context) i == 1

abbrev pub value_in : List Plane → Scan → ℕ → ℕ
value_in planes scan i = number planes scan.source.offset scan.source.len i

abbrev pub bit_in : List Plane → Option Field → ℕ → Bool
bit_in planes None i = false
bit_in planes (Some f) i = number planes f.offset f.len i == 1

-- a segment, and a line or a segment of lines with so many positions, begins at lane i of block k
abbrev pub begins_in : List Plane → Scan → ℕ → Bool
begins_in planes scan i = parts scan.mode D.Upward false (bit_in planes scan.bit i) (active_in planes scan i)

abbrev pub cut_in : List Plane → Scan → ℕ → ℕ → ℕ → Bool
cut_in planes scan extent k i = nat_lt i 512 && ((512 * k + i) % extent == 0 || begins_in planes scan i)

-- the fold before the first lane of block k, from the one behind the block before it
abbrev pub start_in : List Plane → Scan → ℕ → ℕ → ℕ → ℕ
start_in planes scan extent k before = if cut_in planes scan extent k 0 then identity_of (combiner_of scan.combiner).0 (combiner_of scan.combiner).1 else before

-- the fold before lane i of block k, from the one before its first lane, and the scan there
abbrev pub fold_in : List Plane → Scan → ℕ → ℕ → ℕ → ℕ → ℕ
fold_in planes scan extent k start i = running scan.combiner (λ j. cut_in planes scan extent k j) (λ j. active_in planes scan j) (λ j. value_in planes scan j) start i

abbrev pub scanned_in : List Plane → Scan → ℕ → ℕ → ℕ → ℕ → ℕ
scanned_in planes scan extent k start i =
    with_own scan.inclusion (λ t. fold_once (combiner_of scan.combiner).0 (combiner_of scan.combiner).1 t (value_in planes scan i)) (fold_in planes scan extent k start i)
