use Rattle.std.proofs.Common.{◌≡◌, sym, ap, ◌∙◌, subst}
use Rattle.std.proofs.lemmas.Bool.{eq-eqb, eqb-true}
use Rattle.combine_core.specs.Machine.{claims_of, held_by, IsComplete}
use Rattle.combine_board.proofs.Told.{complete_from_count, count_from_complete}
use Rattle.combine_board.proofs.board.Board.complete.Goals as goal

pub returns : goal.returns
returns g c =
    let v = c.pass.inside.seat.me.0 in
    let p = c.pass.invariant.1 in
    let slots = ap (λ p. p.board.plan.slots) c.pass.view_is ∙ ap (λ b. b.plan.slots) c.requires in
    let worker = ap (λ p. p.worker) c.pass.view_is in
    let count : c.claim_count.result ≡ claims_of v.slots = c.claim_count.ensures ∙ ap claims_of (c.as_slice.ensures.value ∙ ap (λ b. b.plan.slots) c.self.view_is ∙ sym slots) in (
      (λ h.
          let e = eqb-true c.pass.inside.done c.claim_count.result h in
          let is : IsComplete v.slots (held_by v.worker) = complete_from_count v p.told (sym p.done_is ∙ e ∙ count) in
          subst (λ w. IsComplete c.args.self.now.plan.slots (held_by w)) worker (subst (λ os. IsComplete os (held_by v.worker)) slots is)),
      (λ h.
          let is : IsComplete v.slots (held_by v.worker) = subst (λ os. IsComplete os (held_by v.worker)) (sym slots) (subst (λ w. IsComplete c.args.self.now.plan.slots (held_by w)) (sym worker) h) in
          eq-eqb c.pass.inside.done c.claim_count.result (p.done_is ∙ count_from_complete v p.told is ∙ sym count)),
    )
