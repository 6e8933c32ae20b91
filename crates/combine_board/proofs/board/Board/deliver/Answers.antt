use Rattle.std.proofs.Common.{◌≡◌, ◌+◌, if◌then◌else◌, is_some, Some, sym, ap, ◌∙◌, subst}
use Rattle.combine_core.specs.Machine.{next_in, ahead_of, passed_to}
use Rattle.combine_board.specs.Rule.{IsTold, delivered_by}
use Rattle.combine_board.proofs.Calls.{what_is_ahead, done_small, delivered_as, pass_as}
use Rattle.combine_board.proofs.board.Board.deliver.Goals as goal

pub counted-pass-inside-requires : goal.counted-pass-inside-requires
counted-pass-inside-requires g c = done_small c.pass.inside.seat.me.0 c.pass.inside.last c.pass.inside.next c.pass.inside.number c.pass.inside.done c.pass.invariant.1

pub invariant_of-pass : goal.invariant_of-pass
invariant_of-pass g c =
    let v = c.pass.inside.seat.me.0 in
    let p = c.pass.invariant.1 in
    let i = c.args.index in
    let r = c.next_message.result.1 in
    let slots = ap (λ p. p.board.plan.slots) c.pass.view_is ∙ ap (λ b. b.plan.slots) c.requires.of in
    let here = c.as_slice.ensures.value ∙ ap (λ b. b.plan.slots) c.self.view_is ∙ sym slots in
    let ahead : ahead_of v.slots v.worker ≡ Some i = ap (λ p. ahead_of v.slots p.worker) c.pass.view_is ∙ ap (λ os. ahead_of os c.args.pass.now.worker) slots ∙ c.requires.next in
    let same = ap (delivered_by v) ahead in
    let last = c.next_message.ensures.last ∙ ap (λ p. (passed_to i p.worker).last) (sym c.pass.view_is) in
    let next = c.next-next.ensures ∙ ap (λ os. next_in os r) here in
    let was = delivered_as v i r c.pass.inside.last c.pass.inside.next c.pass.inside.number c.pass.inside.done p (what_is_ahead v p.told i ahead) last (subst IsTold same c.hand_over.ensures.told.1) in (
      ap (λ m. m.1) c.hand_over.ensures.told.0 ∙ c.pass.invariant.0,
      pass_as _ c.hand_over.new.seat.me.0 _ _ c.next-next.result _ _ c.counted-pass-inside.result was (ap (λ m. m.0) c.hand_over.ensures.told.0 ∙ same) next
          (c.counted-pass-inside.ensures ∙ ap (λ o. c.pass.inside.done + (if is_some o then 0 else 1)) next),
    )
