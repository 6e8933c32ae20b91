use Rattle.std.proofs.Common.{◌≡◌, ◌<◌, ◌+◌, if◌then◌else◌, is_some, sym, ap, ◌∙◌, subst, arith}
use Rattle.combine_core.specs.Machine.{claims_of, held, next_in}
use Rattle.combine_board.specs.Values.{Plan, WholeHoldsEvery}
use Rattle.combine_board.specs.Rule.{plan_of, IsTold}
use Rattle.combine_board.proofs.Calls.{task_plan, pass_as, done_small}
use Rattle.combine_board.proofs.Passes.{claimed_pass, few_claims}
use Rattle.combine_board.proofs.Steps.{claim_allows}
use Rattle.combine_board.proofs.board.Board.claim.Goals as goal

pub fetch_add-number-requires : goal.fetch_add-number-requires
fetch_add-number-requires g c =
    let k = c.self.inside.table.shared.key in
    let a : Plan = task_plan (g.C.Combine.combines k.combiner) k.slots.items k.home.items in
    let table : c.pass.inside.seat.table_id ≡ c.self.inside.table.shared.table_id = ap (λ p. p.board.id) c.pass.view_is ∙ ap (λ b. b.id) c.requires.of ∙ sym (ap (λ b. b.id) c.self.view_is) in
    let plan : plan_of c.pass.inside.seat.me.0 ≡ a =
    ap (λ p. p.board.plan) c.pass.view_is ∙ ap (λ b. b.plan) c.requires.of ∙ sym (ap (λ b. b.plan) c.self.view_is)
    ∙ ap (λ t. task_plan (g.C.Combine.combines t.combiner) t.slots.items t.home.items) (sym c.self.invariant.0) in
    let left : 0 < c.pass.inside.seat.me.0.worker.draws = (let e = ap (λ p. p.worker.draws) c.pass.view_is in let some = c.requires.some_left in omega arith) in
    (table, omega arith, claim_allows a c.self.inside.table.shared.table_id.slots c.pass.inside.seat.id c.pass.inside.seat.me c.pass.invariant.1.live left plan)

pub returns-then-number-from-clause-whole : goal.returns-then-number-from-clause-whole
returns-then-number-from-clause-whole g c =
    let me = c.fetch_add-number.ensures.2.0 in
    let t : IsTold c.fetch_add-number.new.seat.me.0 = subst (λ m. IsTold m.0) (sym me) c.fetch_add-number.ensures.2.1 in
    let slots = ap (λ m. m.0.slots) me ∙ ap (λ p. p.board.plan.slots) c.pass.view_is ∙ ap (λ b. b.plan.slots) c.requires.of in
    subst (λ os. WholeHoldsEvery os c.fetch_add-number.new.seat.me.0.worker) slots t.whole

pub returns-then-number-from-clause-few : goal.returns-then-number-from-clause-few
returns-then-number-from-clause-few g c =
    let t : IsTold c.fetch_add-number.new.seat.me.0 = subst (λ m. IsTold m.0) (sym c.fetch_add-number.ensures.2.0) c.fetch_add-number.ensures.2.1 in
    let most = few_claims c.fetch_add-number.new.seat.me.0 t in
    let few = t.setting.few_slots in
    omega arith

pub counted-pass-inside-requires : goal.counted-pass-inside-requires
counted-pass-inside-requires g c = done_small c.pass.inside.seat.me.0 c.pass.inside.last c.pass.inside.next c.pass.inside.number c.pass.inside.done c.pass.invariant.1

pub invariant_of-pass-2 : goal.invariant_of-pass-2
invariant_of-pass-2 g c =
    let v = c.pass.inside.seat.me.0 in
    let n = c.fetch_add-number.result in
    let me = c.fetch_add-number.ensures.2.0 in
    let same = c.as_slice-slots.ensures.value ∙ ap (λ b. b.plan.slots) c.self.view_is ∙ sym (ap (λ b. b.plan.slots) c.requires.of) ∙ sym (ap (λ p. p.board.plan.slots) c.pass.view_is) in
    let is_claim : n < claims_of v.slots = (let e = ap claims_of same in omega arith) in
    let next = c.next-next.ensures ∙ ap (λ os. next_in os (held n 0)) same in
    let was = claimed_pass v n c.pass.inside.last c.pass.inside.next c.pass.inside.number c.pass.inside.done c.pass.invariant.1 c.fetch_add-number.ensures.2.1 is_claim in (
      ap (λ m. m.1) me ∙ c.pass.invariant.0,
      pass_as _ c.fetch_add-number.new.seat.me.0 _ _ c.next-next.result _ _ c.counted-pass-inside.result was (ap (λ m. m.0) me) next
          (c.counted-pass-inside.ensures ∙ ap (λ o. c.pass.inside.done + (if is_some o then 0 else 1)) next),
    )

pub returns-clause-whole : goal.returns-clause-whole
returns-clause-whole g c =
    let me = c.fetch_add-number.ensures.2.0 in
    let t : IsTold c.fetch_add-number.new.seat.me.0 = subst (λ m. IsTold m.0) (sym me) c.fetch_add-number.ensures.2.1 in
    let slots = ap (λ m. m.0.slots) me ∙ ap (λ p. p.board.plan.slots) c.pass.view_is ∙ ap (λ b. b.plan.slots) c.requires.of in
    subst (λ os. WholeHoldsEvery os c.fetch_add-number.new.seat.me.0.worker) slots t.whole

pub returns-clause-few : goal.returns-clause-few
returns-clause-few g c =
    let t : IsTold c.fetch_add-number.new.seat.me.0 = subst (λ m. IsTold m.0) (sym c.fetch_add-number.ensures.2.0) c.fetch_add-number.ensures.2.1 in
    let most = few_claims c.fetch_add-number.new.seat.me.0 t in
    let few = t.setting.few_slots in
    omega arith
