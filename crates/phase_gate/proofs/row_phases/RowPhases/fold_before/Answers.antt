use Rattle.std.proofs.Common.{◌≡◌, ◌∙◌, sym, ap}
use Rattle.std.specs.Prelude.{unwrap_or}
use Rattle.cstar_base.specs.Folds.{fold_once, identity_of}
use Rattle.phase_gate.specs.Rows.{sets_of, memory_of}
use Rattle.phase_gate.specs.Scans.{scan_of}
use Rattle.phase_meaning.specs.Scans.{before_at}
use Rattle.phase_meaning.proofs.Runs.{folds, first_fold, begun_fold, more_fold, same_fold}
use Rattle.phase_gate.proofs.row_phases.RowPhases.fold_before.Goals as goal

pub returns-in_default : goal.returns-in_default
returns-in_default c =
    c.identity-start.ensures.value ∙ ap (λ r. identity_of r.0 r.1) c.combiner-combine.ensures
    ∙ sym (first_fold (sets_of c.args.self.now) (memory_of c.args.self.now) (scan_of c.args.scan.now) c.args.position c.in_default.ensures)

pub returns-then-parts : goal.returns-then-parts
returns-then-parts c =
    c.identity-start.ensures.value ∙ ap (λ r. identity_of r.0 r.1) c.combiner-combine.ensures
    ∙ sym (begun_fold (sets_of c.args.self.now) (memory_of c.args.self.now) (scan_of c.args.scan.now) c.args.position c.in-Some.previous c.in-Some.ensures.1 (sym c.parts.ensures ∙ c.if-parts.true))

pub returns-then-is_active : goal.returns-then-is_active
returns-then-is_active c =
    let now = sets_of c.args.self.now in
    let m = memory_of c.args.self.now in
    let scan = scan_of c.args.scan.now in
    let q = c.in-Some.previous in
    let before = before_at now m scan q in
    let total : c.unwrap_or-total.result ≡ before =
    c.unwrap_or-total.ensures ∙ ap (λ r. unwrap_or r c.identity-start.result) (c.gathered.ensures ∙ c.requires.before q c.in-Some.ensures.0 c.in-Some.ensures.1.before) in
    c.fold_step.ensures ∙ ap (λ r. fold_once r.0 r.1 c.unwrap_or-total.result c.field.result) c.combiner-combine.ensures
    ∙ ap (λ x. folds scan x c.field.result) total ∙ ap (folds scan before) c.field.ensures.value
    ∙ sym (more_fold now m scan c.args.position q c.in-Some.ensures.1 (sym c.parts.ensures ∙ c.if-parts.false) (sym c.is_active.ensures ∙ c.if-is_active.true))

pub returns-else-is_active : goal.returns-else-is_active
returns-else-is_active c =
    let now = sets_of c.args.self.now in
    let m = memory_of c.args.self.now in
    let q = c.in-Some.previous in
    c.unwrap_or-total.ensures ∙ ap (λ r. unwrap_or r c.identity-start.result) (c.gathered.ensures ∙ c.requires.before q c.in-Some.ensures.0 c.in-Some.ensures.1.before)
    ∙ sym (same_fold now m (scan_of c.args.scan.now) c.args.position q c.in-Some.ensures.1 (sym c.parts.ensures ∙ c.if-parts.false) (sym c.is_active.ensures ∙ c.if-is_active.false))
