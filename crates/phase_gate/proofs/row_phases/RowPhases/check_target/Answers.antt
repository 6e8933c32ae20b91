use Rattle.std.proofs.Common.{◌≡◌, ℕ, Bool, ◌&&◌, ◌∙◌, sym, ap, arith}
use Rattle.paris_code.specs.Checking.{any_outside}
use Rattle.paris_code.specs.Memory.{is_active, processors}
use Rattle.paris_code.specs.Shapes.{extents_at}
use Rattle.phase_gate.specs.Rows.{sets_of, memory_of}
use Rattle.phase_meaning.proofs.Rising.{least_none, least_some}
use Rattle.phase_gate.proofs.row_phases.RowPhases.check_target.Goals as goal

pub any_outside-outside-requires : goal.any_outside-outside-requires
any_outside-outside-requires c = c.requires.fields c.positions.position (omega (arith, c.positions-test.true, c.positions-position-end.ensures))

pub returns-then-is_active-outside : goal.returns-then-is_active-outside
returns-then-is_active-outside c =
    let now = sets_of c.args.self.now in
    let m = memory_of c.args.self.now in
    let own = c.args.own in
    let k = c.positions.position in
    let test : ℕ → Bool = λ p. any_outside m (extents_at now c.args.set) c.args.list.now c.args.args.now p in
    let fails : ℕ → Bool = λ p. is_active now m own p && test p in
    let same : c.any_outside-outside.result ≡ test k =
    c.any_outside-outside.ensures ∙ ap (λ xs. any_outside m xs c.args.list.now c.args.args.now k) (c.extents.ensures.value ∙ c.rows.ensures.extents) in
    sym (least_some fails (processors now own) k (omega (arith, c.positions-test.true, c.positions-position-end.ensures))
    (ap (λ t. t && test k) (sym c.is_active.ensures) ∙ ap (λ t. c.is_active.result && t) (sym same) ∙ c.if-is_active-outside.true)
    c.positions.invariant)

pub returns : goal.returns
returns c =
    let now = sets_of c.args.self.now in
    let m = memory_of c.args.self.now in
    let own = c.args.own in
    let fails : ℕ → Bool = λ p. is_active now m own p && any_outside m (extents_at now c.args.set) c.args.list.now c.args.args.now p in
    sym (least_none fails (processors now own) (λ k b. c.positions.invariant k (omega (arith, b, c.positions-test.false, c.positions-position-end.ensures))))
