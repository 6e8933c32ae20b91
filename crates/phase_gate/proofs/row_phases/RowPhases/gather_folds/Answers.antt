use Rattle.std.proofs.Common.{◌≡◌, ◌<◌, List, Some, ◌∙◌, sym, ap, inl, inr, refl, arith}
use Rattle.std.proofs.lemmas.Bool.{cases_eq}
use Rattle.paris_code.specs.Memory.{BitMemory, processors}
use Rattle.vp_sets.specs.Lines.{steps_before}
use Rattle.paris_code.specs.Shapes.{SetShape}
use Rattle.phase_gate.specs.Rows.{sets_of, memory_of, room_of}
use Rattle.phase_gate.specs.Scans.{scan_of}
use Rattle.phase_meaning.specs.Scans.{before_at}
use Rattle.phase_meaning.proofs.Lines.{steps_below, steps_twice, earlier}
use Rattle.phase_gate.proofs.row_phases.RowPhases.gather_folds.Goals as goal

pub positions-init : goal.positions-init
positions-init c = (refl, refl, λ p b h. absurd (omega (arith, h)))

pub fold_before-total-requires-clause-before : goal.fold_before-total-requires-clause-before
fold_before-total-requires-clause-before c = λ q b h.
    let now = sets_of c.args.self.now in
    let m = memory_of c.args.self.now in
    let scan = c.args.scan.now in
    let d = scan.direction in
    let count = processors now scan.source.set in
    let was = c.positions.self in
    let here = c.positions.invariant in
    let n = c.positions.n in
    let inside : n < count = omega (arith, c.positions-test.true, c.positions-positions.ensures) in
    let counts : processors (sets_of was) scan.source.set ≡ count = ap (λ s. processors s scan.source.set) here.0 in
    let turn : steps_before d count c.nth-position.result ≡ n = ap (steps_before d count) (c.nth-position.ensures.value ∙ ap (λ x. steps_before d x n) c.positions-positions.ensures) ∙ steps_twice d count n inside in
    here.2 q (omega (arith, b, counts)) (omega (arith, h, turn, ap (λ x. steps_before d x q) counts, ap (λ x. steps_before d x c.nth-position.result) counts))
    ∙ ap (λ (s : List SetShape). Some (before_at s m (scan_of scan) q)) (sym here.0)
    ∙ ap (λ (o : BitMemory). Some (before_at (sets_of was) o (scan_of scan) q)) (sym here.1)

pub positions-preserved : goal.positions-preserved
positions-preserved c =
    let now = sets_of c.args.self.now in
    let m = memory_of c.args.self.now in
    let scan = c.args.scan.now in
    let set = scan.source.set in
    let count = processors now set in
    let was = c.positions.self in
    let here = c.positions.invariant in
    let n = c.positions.n in
    let at = c.nth-position.result in
    let inside : n < count = omega (arith, c.positions-test.true, c.positions-positions.ensures) in
    let place : at ≡ steps_before scan.direction count n = c.nth-position.ensures.value ∙ ap (λ x. steps_before scan.direction x n) c.positions-positions.ensures in (
      c.gather.ensures.sets ∙ here.0,
      c.gather.ensures.memory ∙ here.1,
      λ p b h. elim (cases_eq p at) [
        | inl e ↦
            ap (room_of c.gather.new.self set) e ∙ c.gather.ensures.held
            ∙ ap Some (c.fold_before-total.ensures ∙ ap (λ (s : List SetShape). before_at s (memory_of was) (scan_of scan) at) here.0
            ∙ ap (λ (o : BitMemory). before_at now o (scan_of scan) at) here.1 ∙ ap (before_at now m (scan_of scan)) (sym e))
        | inr apart ↦ c.gather.ensures.others set p (inr apart) ∙ here.2 p b (earlier scan.direction count n p at place inside b h apart)
      ],
    )

pub returns-clause-words : goal.returns-clause-words
returns-clause-words c = λ p b.
    let count = processors (sets_of c.args.self.now) c.args.scan.now.source.set in
    c.positions.invariant.2 p b (omega (arith, steps_below c.args.scan.now.direction count p b, c.positions-test.false, c.positions-positions.ensures))
