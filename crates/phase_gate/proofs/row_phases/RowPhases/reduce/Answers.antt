use Rattle.std.proofs.Common.{◌≡◌, ◌∙◌, ap, sym, Bool, not, arith}
use Rattle.cstar_base.specs.declared.operators.Combiner.{Combiner}
use Rattle.cstar_base.specs.Folds.{fold_once, identity_of}
use Rattle.cstar_base.specs.Numbers.{residue}
use Rattle.paris_code.specs.Fetching.{folded_word, global_fold}
use Rattle.paris_code.specs.Memory.{is_active, whole_number, processors}
use Rattle.paris_code.specs.Operators.{combiner_of}
use Rattle.cstar_base.specs.Orders.{fold_below}
use Rattle.phase_gate.specs.Rows.{sets_of, memory_of}
use Rattle.phase_meaning.proofs.Rising.{fold_none, fold_one, fold_skip}
use Rattle.phase_gate.proofs.row_phases.RowPhases.reduce.Goals as goal
use Rattle.phase_gate.proofs.row_phases.RowPhases.reduce.Goals.{then-is_active, else-is_active}

pub positions-init : goal.positions-init
positions-init c = c.identity-total.ensures.value ∙ ap (λ r. identity_of r.0 r.1) c.combiner-combine.ensures ∙ sym (fold_none _ _ _ _)

pub positions-preserved : goal.positions-preserved
unfolding folded_word
positions-preserved c =
    let o = combiner_of c.args.combiner in
    let word = λ (r : Combiner × Bool). residue 32 (whole_number (memory_of c.args.self.now) (not r.1) c.args.source c.positions.position) in
    elim c.if-is_active.branch [
      | then-is_active w ↦
          w.total-is ∙ w.fold_step-total.ensures ∙ ap (λ r. fold_once r.0 r.1 c.positions.total w.word-word.result) c.combiner-combine.ensures
          ∙ ap (λ t. fold_once o.0 o.1 t w.word-word.result) c.positions.invariant ∙ ap (λ n. fold_once o.0 o.1 _ n) (w.word-word.ensures.value ∙ ap word c.combiner-combine.ensures)
          ∙ sym (fold_one _ _ _ _ c.positions.position (sym c.is_active.ensures ∙ w.if-is_active.true))
      | else-is_active w ↦ w.total-is ∙ c.positions.invariant ∙ sym (fold_skip _ _ _ _ c.positions.position (sym c.is_active.ensures ∙ w.if-is_active.false))
    ]

pub returns : goal.returns
unfolding global_fold
returns c =
    let o = combiner_of c.args.combiner in
    let now = sets_of c.args.self.now in
    let m = memory_of c.args.self.now in
    c.positions.invariant
    ∙ ap (fold_below (λ total n. fold_once o.0 o.1 total n) (λ p. is_active now m c.args.source.set p) (λ p. folded_word c.args.combiner m c.args.source p) (identity_of o.0 o.1))
    (let e : c.positions.position ≡ processors now c.args.source.set = omega (arith, c.positions-test.false, c.positions.auto.position-end, c.positions-position-end.ensures) in e)
