use Rattle.std.proofs.Common.{◌≡◌, false, List, ◌∙◌, sym, ap, inl, inr, arith}
use Rattle.std.specs.Prelude.{unwrap_or}
use Rattle.std.proofs.lemmas.Bool.{cases_eq}
use Rattle.paris_code.specs.Memory.{BitMemory, processors}
use Rattle.paris_code.specs.Scanning.{scanned}
use Rattle.paris_code.specs.Shapes.{SetShape}
use Rattle.phase_meaning.specs.Gathered.{word_if}
use Rattle.phase_gate.specs.Rows.{sets_of, memory_of, room_of}
use Rattle.phase_gate.specs.Scans.{scan_of}
use Rattle.phase_meaning.specs.Scans.{before_at}
use Rattle.phase_gate.proofs.row_phases.RowPhases.gather_scan.Goals as goal

pub positions-init : goal.positions-init
positions-init c = (c.gather_folds.ensures.sets, c.gather_folds.ensures.memory, λ p b. absurd (omega (arith, b)), λ p h b. c.gather_folds.ensures.words p b)

pub with_own-word-requires-clause-total : goal.with_own-word-requires-clause-total
with_own-word-requires-clause-total c =
    let m = memory_of c.args.self.now in
    let scan = c.args.scan.now in
    let k = c.positions.position in
    let was = c.positions.self in
    let here = c.positions.invariant in
    c.unwrap_or-total.ensures
    ∙ ap (λ o. unwrap_or o 0)
    (c.gathered.ensures ∙ here.3 k (omega arith) (omega (arith, c.positions-test.true, c.positions-position-end.ensures, ap (λ s. processors s scan.source.set) c.gather_folds.ensures.sets)))
    ∙ ap (λ (s : List SetShape). before_at s m (scan_of scan) k) (sym here.0)
    ∙ ap (λ (o : BitMemory). before_at (sets_of was) o (scan_of scan) k) (sym here.1)

pub positions-preserved : goal.positions-preserved
positions-preserved c =
    let now = sets_of c.args.self.now in
    let m = memory_of c.args.self.now in
    let scan = c.args.scan.now in
    let set = scan.source.set in
    let k = c.positions.position in
    let was = c.positions.self in
    let here = c.positions.invariant in
    let word : c.with_own-word.result ≡ scanned now m (scan_of scan) k =
    c.with_own-word.ensures ∙ ap (λ (s : List SetShape). scanned s (memory_of was) (scan_of scan) k) here.0 ∙ ap (λ (o : BitMemory). scanned now o (scan_of scan) k) here.1 in (
      c.hold.ensures.sets ∙ here.0,
      c.hold.ensures.memory ∙ here.1,
      λ p b. elim (cases_eq p k) [
        | inl e ↦
            ap (room_of c.hold.new.self set) e ∙ c.hold.ensures.held
            ∙ ap (λ (s : List SetShape). word_if s (memory_of was) set false k c.with_own-word.result) here.0
            ∙ ap (λ (o : BitMemory). word_if now o set false k c.with_own-word.result) here.1
            ∙ ap (word_if now m set false k) word ∙ ap (λ q. word_if now m set false q (scanned now m (scan_of scan) q)) (sym e)
        | inr apart ↦ c.hold.ensures.others set p (inr apart) ∙ here.2 p (omega arith)
      ],
      λ p h b. c.hold.ensures.others set p (inr (λ e. absurd (omega (arith, e, h)))) ∙ here.3 p (omega arith) b,
    )

pub returns-clause-words : goal.returns-clause-words
returns-clause-words c = λ p b.
    c.positions.invariant.2 p (omega (arith, b, c.positions-test.false, c.positions-position-end.ensures, ap (λ s. processors s c.args.scan.now.source.set) c.gather_folds.ensures.sets))
