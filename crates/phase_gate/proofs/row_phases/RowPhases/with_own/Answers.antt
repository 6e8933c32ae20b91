use Rattle.std.proofs.Common.{◌∙◌, sym, ap}
use Rattle.cstar_base.specs.Folds.{fold_once}
use Rattle.cstar_base.specs.declared.operators.Inclusion.{Inclusion}
use Rattle.paris_code.specs.Memory.{field_number}
use Rattle.paris_code.specs.Operators.{combiner_of}
use Rattle.paris_code.specs.Scanning.{scanned, with_own}
use Rattle.phase_gate.specs.Rows.{sets_of, memory_of}
use Rattle.phase_gate.specs.Scans.{scan_of}
use Rattle.phase_meaning.specs.Scans.{before_at}
use Rattle.phase_gate.proofs.row_phases.RowPhases.with_own.Goals as goal

pub returns-in-Exclusive : goal.returns-in-Exclusive
unfolding scanned
returns-in-Exclusive c =
    let m = memory_of c.args.self.now in
    let scan = c.args.scan.now in
    let o = combiner_of scan.combiner in
    c.requires.total
    ∙ ap (λ (i : Inclusion). with_own i (λ total. fold_once o.0 o.1 total (field_number m scan.source c.args.position)) (before_at (sets_of c.args.self.now) m (scan_of scan) c.args.position)) (sym c.in-Exclusive.is)

pub returns-in-Inclusive : goal.returns-in-Inclusive
unfolding scanned
returns-in-Inclusive c =
    let m = memory_of c.args.self.now in
    let scan = c.args.scan.now in
    let o = combiner_of scan.combiner in
    let before = before_at (sets_of c.args.self.now) m (scan_of scan) c.args.position in
    c.fold_step.ensures ∙ ap (λ r. fold_once r.0 r.1 c.args.total c.field.result) c.combiner-combine.ensures
    ∙ ap (λ x. fold_once o.0 o.1 x c.field.result) c.requires.total ∙ ap (fold_once o.0 o.1 before) c.field.ensures.value
    ∙ ap (λ (i : Inclusion). with_own i (λ total. fold_once o.0 o.1 total (field_number m scan.source c.args.position)) before) (sym c.in-Inclusive.is)
