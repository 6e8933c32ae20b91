-- A scan along an axis, by its lines and its set.
use Rattle.std.specs.Prelude.{◌≡◌, ℕ, suc, ◌<◌, Bool, true, false, List, drop, slice_index, IfSome}
use Rattle.vp_sets.specs.Positions.{position_count}
use Rattle.cstar_base.specs.declared.operators.Direction.{Direction}
use Rattle.paris_code.specs.declared.instr.Instr.{Instr}
use Rattle.paris_code.specs.declared.instr.Instr.TheVariants as I
use Rattle.paris_code.specs.Scanning.{ScanOf}
use Rattle.paris_code.specs.Shapes.{SetShape, rank_at}
use Rattle.phase_meaning.specs.Apply.{LiesIn, looked_at}
use Rattle.reduce_scan.specs.declared.lines.AxisScan.{AxisScan}
use Rattle.reduce_scan.specs.declared.lines.Lines.{Lines}
use Rattle.reduce_scan.specs.declared.lines.Scan.{Scan}

abbrev pub scan_of : AxisScan → ScanOf
scan_of s = record { combiner = s.combiner; source = s.source; axis = s.axis; direction = s.direction; mode = s.mode; bit = s.bit; inclusion = s.inclusion }

abbrev pub scan_over : AxisScan → ℕ → Scan
scan_over s context = record { combiner = s.combiner; source = s.source; mode = s.mode; bit = s.bit; inclusion = s.inclusion; context = context }

abbrev pub lines_of : List ℕ → ℕ → Direction → Lines
lines_of extents axis direction = record {
  direction = direction;
  extent = slice_index extents axis;
  apart = position_count (drop (suc axis) extents);
  positions = position_count extents;
}

-- the source is a word that lies in its set, the axis is one of that, and the bit is one that lies in it where it is looked at
abbrev pub ScanFits : List SetShape → AxisScan → Type 0
ScanFits shapes scan =
    LiesIn shapes scan.source × (scan.source.len ≡ 32) × (scan.axis < rank_at shapes scan.source.set)
    × IfSome (looked_at scan.mode scan.bit) (λ bit. LiesIn shapes bit × (bit.set ≡ scan.source.set) × (bit.len ≡ 1))

-- the reductions and the scans
abbrev pub is_folding : Instr → Bool
is_folding (I.Global c r a) = true
is_folding (I.Scan c d a axis direction mode bit _) = true
is_folding _ = false
