use Rattle.std.proofs.Common.{ℕ, Bool, ◌&&◌, ◌∙◌, sym, ap, arith}
use Rattle.paris_code.specs.Checking.{any_leaves}
use Rattle.paris_code.specs.Memory.{is_active, processors}
use Rattle.paris_code.specs.Shapes.{extents_at}
use Rattle.phase_gate.specs.Rows.{sets_of, memory_of}
use Rattle.phase_meaning.proofs.Rising.{least_none, least_some}
use Rattle.phase_gate.proofs.row_phases.RowPhases.check_grid.Goals as goal

pub returns-then-is_active-leaves : goal.returns-then-is_active-leaves
returns-then-is_active-leaves c =
    let now = sets_of c.args.self.now in
    let m = memory_of c.args.self.now in
    let set = c.args.set in
    let k = c.positions.position in
    let test : ℕ → Bool = λ p. any_leaves (extents_at now set) c.args.steps.now c.args.args.now p in
    let fails : ℕ → Bool = λ p. is_active now m set p && test p in
    sym (least_some fails (processors now set) k (omega (arith, c.positions-test.true, c.positions-position-end.ensures))
    (ap (λ t. t && test k) (sym c.is_active.ensures) ∙ ap (λ t. c.is_active.result && t) (sym c.any_leaves-leaves.ensures) ∙ c.if-is_active-leaves.true)
    c.positions.invariant)

pub returns : goal.returns
returns c =
    let now = sets_of c.args.self.now in
    let m = memory_of c.args.self.now in
    let set = c.args.set in
    let fails : ℕ → Bool = λ p. is_active now m set p && any_leaves (extents_at now set) c.args.steps.now c.args.args.now p in
    sym (least_none fails (processors now set) (λ k b. c.positions.invariant k (omega (arith, b, c.positions-test.false, c.positions-position-end.ensures))))
