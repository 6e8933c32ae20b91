use Rattle.std.proofs.Common.{ℕ, Bool, ◌&&◌, ◌∙◌, eqb, sym, ap, arith}
use Rattle.paris_code.specs.Memory.{is_active, field_number, processors}
use Rattle.phase_gate.specs.Rows.{sets_of, memory_of}
use Rattle.phase_meaning.proofs.Rising.{least_none, least_some}
use Rattle.phase_gate.proofs.row_phases.RowPhases.check_divisor.Goals as goal

pub returns-then-is_active-zero : goal.returns-then-is_active-zero
returns-then-is_active-zero c =
    let now = sets_of c.args.self.now in
    let m = memory_of c.args.self.now in
    let a = c.args.source in
    let k = c.positions.position in
    let fails : ℕ → Bool = λ p. is_active now m a.set p && eqb (field_number m a p) 0 in
    sym (least_some fails (processors now a.set) k (omega (arith, c.positions-test.true, c.positions-position-end.ensures))
    (ap (λ t. t && eqb (field_number m a k) 0) (sym c.is_active.ensures) ∙ ap (λ n. c.is_active.result && eqb n 0) (sym c.field-zero.ensures.value) ∙ c.if-is_active-zero.true)
    c.positions.invariant)

pub returns : goal.returns
returns c =
    let now = sets_of c.args.self.now in
    let m = memory_of c.args.self.now in
    let a = c.args.source in
    let fails : ℕ → Bool = λ p. is_active now m a.set p && eqb (field_number m a p) 0 in
    sym (least_none fails (processors now a.set) (λ k b. c.positions.invariant k (omega (arith, b, c.positions-test.false, c.positions-position-end.ensures))))
