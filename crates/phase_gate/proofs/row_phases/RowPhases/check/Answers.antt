use Rattle.std.proofs.Common.{◌≡◌, ◌<◌, ◌&&◌, List, All, ◌∙◌, sym, ap, subst}
use Rattle.paris_code.specs.declared.operands.GridStep.{GridStep}
use Rattle.paris_code.specs.declared.operands.SignedCoordinate.{SignedCoordinate}
use Rattle.paris_code.specs.Checking.{any_leaves, any_outside, set_of_coordinates}
use Rattle.paris_code.specs.Operands.{coordinate_of}
use Rattle.paris_code.specs.Memory.{is_active, processors}
use Rattle.cstar_base.specs.Orders.{least_below}
use Rattle.paris_code.specs.Shapes.{extents_at}
use Rattle.paris_code.specs.declared.instr.Instr.{Instr}
use Rattle.paris_code.specs.Meaning.{bad_or_nothing, reply_of}
use Rattle.phase_gate.specs.Rows.{sets_of, memory_of}
use Rattle.phase_meaning.specs.Apply.{CanApply, IsCoordinateAt}
use Rattle.phase_meaning.proofs.FieldLemmas.{checked_at, own_exists}
use Rattle.phase_gate.proofs.row_phases.RowPhases.check.Goals as goal

pub returns-in-CheckDivisor-clause-least : goal.returns-in-CheckDivisor-clause-least
returns-in-CheckDivisor-clause-least c =
    subst (λ (i : Instr). c.answer-in-CheckDivisor.result ≡ reply_of (sets_of c.args.self.now) i c.args.args.now (memory_of c.args.self.now)) (sym c.in-CheckDivisor.is)
    (c.answer-in-CheckDivisor.ensures ∙ ap bad_or_nothing c.check_divisor.ensures)

pub returns-in-CheckGrid-clause-least : goal.returns-in-CheckGrid-clause-least
returns-in-CheckGrid-clause-least c =
    let now = sets_of c.args.self.now in
    let m = memory_of c.args.self.now in
    let set = c.in-CheckGrid.set in
    let args = c.args.args.now in
    subst (λ (i : Instr). c.answer-in-CheckGrid.result ≡ reply_of now i args m) (sym c.in-CheckGrid.is)
    (c.answer-in-CheckGrid.ensures ∙ ap bad_or_nothing (
    c.check_grid.ensures
    ∙ ap (λ (steps : List GridStep). least_below (λ p. is_active now m set p && any_leaves (extents_at now set) steps args p) (processors now set)) c.as_slice.ensures.value))

pub check_target-requires-clause-fields : goal.check_target-requires-clause-fields
check_target-requires-clause-fields c = λ p b.
    let now = sets_of c.args.self.now in
    let set = c.in-CheckTarget.set in
    let list = c.in-CheckTarget.coordinates.items in
    let can = subst (λ (i : Instr). CanApply now i c.args.args.now) c.in-CheckTarget.is c.requires in
    let own : c.checking_set.result ≡ set_of_coordinates set list = c.checking_set.ensures ∙ ap (set_of_coordinates set) c.as_slice-list.ensures.value in
    subst (λ (cs : List SignedCoordinate). All (λ e. IsCoordinateAt now p (coordinate_of e)) cs) (sym c.as_slice-list.ensures.value)
    (checked_at now can.slots set list can.field can.set.1.0 can.operands p
    (own_exists now set list can.set.0 can.set.1.0, subst (λ s. p < processors now s) own b))

pub returns-in-CheckTarget-clause-least : goal.returns-in-CheckTarget-clause-least
returns-in-CheckTarget-clause-least c =
    let now = sets_of c.args.self.now in
    let m = memory_of c.args.self.now in
    let set = c.in-CheckTarget.set in
    let list = c.as_slice-list.result.now in
    let args = c.args.args.now in
    subst (λ (i : Instr). c.answer.result ≡ reply_of now i args m) (sym c.in-CheckTarget.is)
    (c.answer.ensures ∙ ap bad_or_nothing (
    c.check_target.ensures
    ∙ ap (λ own. least_below (λ p. is_active now m own p && any_outside m (extents_at now set) list args p) (processors now own)) c.checking_set.ensures
    ∙ ap (λ (cs : List SignedCoordinate). least_below (λ p. is_active now m (set_of_coordinates set cs) p && any_outside m (extents_at now set) cs args p) (processors now (set_of_coordinates set cs))) c.as_slice-list.ensures.value))
