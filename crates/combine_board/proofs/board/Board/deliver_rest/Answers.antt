use Rattle.std.proofs.Common.{None, refl, sym, ap, ◌∙◌, subst}
use Rattle.combine_core.specs.Machine.{next_in}
use Rattle.combine_board.specs.Values.{pass_with, with_passed}
use Rattle.combine_board.specs.Rule.{plan_of, IsTold}
use Rattle.combine_board.proofs.Calls.{done_small, pass_as}
use Rattle.combine_board.proofs.Passes.{rest_pass}
use Rattle.combine_board.proofs.Rest.{passed_in_last}
use Rattle.combine_board.proofs.board.Board.deliver_rest.Goals as goal

pub with_rest-pass-inside-requires : goal.with_rest-pass-inside-requires
with_rest-pass-inside-requires g c = done_small c.pass.inside.seat.me.0 c.pass.inside.last c.pass.inside.next c.pass.inside.number c.pass.inside.done c.pass.invariant.1

pub invariant_of-pass : goal.invariant_of-pass
invariant_of-pass g c =
    let v = c.pass.inside.seat.me.0 in
    let p = c.pass.invariant.1 in
    let r = c.hand_over_rest-last.result in
    let me = c.hand_over_rest-last.ensures.me in
    let slots = ap (λ p. p.board.plan.slots) c.pass.view_is ∙ ap (λ b. b.plan.slots) c.requires in
    let was = rest_pass v c.in-Some.held r _ _ _ _ p (sym p.last_is ∙ c.in-Some.is) c.hand_over_rest-last.ensures.claim (ap (λ os. next_in os r) slots ∙ c.hand_over_rest-last.ensures.none) (subst (λ m. IsTold m.0) me c.hand_over_rest-last.ensures.told) in
    (ap (λ m. m.1) me ∙ c.pass.invariant.0, pass_as _ c.hand_over_rest-last.new.seat.me.0 _ _ None _ _ c.with_rest-pass-inside.result was (ap (λ m. m.0) me) refl c.with_rest-pass-inside.ensures)

pub returns-clause-passed : goal.returns-clause-passed
returns-clause-passed g c =
    let v = c.pass.inside.seat.me.0 in
    let r = c.hand_over_rest-last.result in
    let me = c.hand_over_rest-last.ensures.me in
    let table = c.hand_over_rest-last.ensures.table in
    let worker = passed_in_last v.worker c.in-Some.held r (sym c.pass.invariant.1.last_is ∙ c.in-Some.is) c.hand_over_rest-last.ensures.claim in (
      r.passed,
      (λ j. record { board = record { id = table j; plan = plan_of (me j).0 }; worker = (me j).0.worker }) ∙ (λ j. record { board = record { id = c.pass.inside.seat.table_id; plan = plan_of v }; worker = worker j })
          ∙ ap (λ p. pass_with p (with_passed r.passed p.worker)) c.pass.view_is,
    )
