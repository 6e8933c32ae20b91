-- When the plain phases can scan.
use Rattle.std.specs.Prelude.{◌≡◌, ◌<◌, List, IfSome}
use Rattle.paris_code.specs.Scanning.{ScanOf}
use Rattle.paris_code.specs.Shapes.{SetShape, rank_at}
use Rattle.phase_gate.specs.declared.scans.Scan.{Scan}
use Rattle.phase_meaning.specs.Apply.{LiesIn, looked_at}

abbrev pub scan_of : Scan → ScanOf
scan_of scan = record { combiner = scan.combiner; source = scan.source; axis = scan.axis; direction = scan.direction; mode = scan.mode; bit = scan.bit; inclusion = scan.inclusion }

-- the source lies in its set, the axis is one of that, and the bit lies in it where it is looked at
abbrev pub ScanFits : List SetShape → Scan → Type 0
ScanFits shapes scan =
    LiesIn shapes scan.source × (scan.axis < rank_at shapes scan.source.set)
    × IfSome (looked_at scan.mode scan.bit) (λ bit. LiesIn shapes bit × (bit.set ≡ scan.source.set))
