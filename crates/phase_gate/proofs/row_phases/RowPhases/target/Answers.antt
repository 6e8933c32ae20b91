use Rattle.std.proofs.Common.{◌≡◌, Bool, true, false, ◌&&◌, eqb, ◌∙◌, sym, ap, refl, arith}
use Rattle.std.proofs.lemmas.Bool.{ne_eqb}
use Rattle.paris_code.specs.Memory.{is_active, field_number}
use Rattle.paris_code.specs.Sending.{sends_to}
use Rattle.phase_gate.specs.Rows.{sets_of, memory_of}
use Rattle.phase_gate.proofs.row_phases.RowPhases.target.Goals as goal
use Rattle.phase_gate.proofs.row_phases.RowPhases.target.Goals.{else-is_active-via-then-is_active+else-target-positions, else-is_active-via-else-is_active}

pub returns-then-target-positions : goal.returns-then-target-positions
unfolding sends_to
returns-then-target-positions c =
    let address = c.args.send.now.address in (
      omega (arith, c.if-target-positions.true, c.positions.ensures),
      λ t. ap (λ b. b && eqb (field_number (memory_of c.args.self.now) address c.args.sender) t) (sym c.is_active.ensures ∙ c.if-is_active.true) ∙ ap (λ n. eqb n t) (sym c.field-target.ensures.value),
    )

and_false : (t : Bool) → (t && false) ≡ false
and_false true = refl
and_false false = refl

pub returns-else-is_active : goal.returns-else-is_active
unfolding sends_to
returns-else-is_active c = λ t b.
    let m = memory_of c.args.self.now in
    let address = c.args.send.now.address in
    let number = field_number m address c.args.sender in
    let active = is_active (sets_of c.args.self.now) m address.set c.args.sender in
    elim c.else-is_active.branch [
      | else-is_active-via-then-is_active+else-target-positions w ↦
          ap (λ x. active && x) (ne_eqb number t (λ e. absurd (omega (arith, w.if-target-positions.false, w.positions.ensures, c.field-target.ensures.value, b, e)))) ∙ and_false active
      | else-is_active-via-else-is_active w ↦ ap (λ a. a && eqb number t) (sym c.is_active.ensures ∙ w.if-is_active.false)
    ]
