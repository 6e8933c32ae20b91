use Rattle.std.proofs.Common.{◌≡◌, true, refl, sym, ap, ◌∙◌, subst, arith}
use Rattle.combine_board.specs.Values.{Plan, WholeHoldsEvery}
use Rattle.combine_board.specs.Rule.{plan_of, both_view, IsTold}
use Rattle.combine_board.proofs.Calls.{task_plan, pass_as}
use Rattle.combine_board.proofs.Passes.{both_pass}
use Rattle.combine_board.proofs.Told.{done_at_most}
use Rattle.combine_board.proofs.Steps.{joins, look_allows}
use Rattle.combine_board.proofs.board.Board.join.Goals as goal

pub join_seat-requires : goal.join_seat-requires
join_seat-requires g c =
    let k = c.self.inside.table.shared.key in
    let a : Plan = task_plan (g.C.Combine.combines k.combiner) k.slots.items k.home.items in
    let table : c.pass.inside.seat.table_id ≡ c.self.inside.table.shared.table_id = ap (λ p. p.board.id) c.pass.view_is ∙ ap (λ b. b.id) c.requires.of ∙ sym (ap (λ b. b.id) c.self.view_is) in
    let that : c.other.inside.seat.table_id ≡ c.self.inside.table.shared.table_id = ap (λ p. p.board.id) c.other.view_is ∙ ap (λ b. b.id) c.requires.other ∙ sym (ap (λ b. b.id) c.self.view_is) in
    let plan : plan_of c.pass.inside.seat.me.0 ≡ a =
    ap (λ p. p.board.plan) c.pass.view_is ∙ ap (λ b. b.plan) c.requires.of ∙ sym (ap (λ b. b.plan) c.self.view_is)
    ∙ ap (λ t. task_plan (g.C.Combine.combines t.combiner) t.slots.items t.home.items) (sym c.self.invariant.0) in
    (table, that, c.other.invariant.0, omega arith, joins a c.pass.inside.seat.id c.other.inside.seat.id c.pass.inside.seat.me.0 c.other.inside.seat.me.0 c.pass.invariant.1.live c.other.invariant.1.live plan)

pub load-requires : goal.load-requires
load-requires g c =
    let k = c.self.inside.table.shared.key in
    let a : Plan = task_plan (g.C.Combine.combines k.combiner) k.slots.items k.home.items in
    let table : c.pass.inside.seat.table_id ≡ c.self.inside.table.shared.table_id = ap (λ p. p.board.id) c.pass.view_is ∙ ap (λ b. b.id) c.requires.of ∙ sym (ap (λ b. b.id) c.self.view_is) in
    let live : c.join_seat.new.seat.me.0.worker.live ≡ true = ap (λ m. m.0.worker.live) c.join_seat.ensures.2 ∙ c.pass.invariant.1.live in
    (c.join_seat.ensures.0 ∙ table, omega arith, look_allows a c.self.inside.table.shared.table_id.slots c.join_seat.new.seat.id c.join_seat.new.seat.me live)

pub overflow_add-pass : goal.overflow_add-pass
overflow_add-pass g c =
    let v = c.pass.inside.seat.me.0 in
    let w = c.other.inside.seat.me.0 in
    let same : plan_of w ≡ plan_of v =
    ap (λ p. p.board.plan) c.other.view_is ∙ ap (λ b. b.plan) c.requires.other ∙ sym (ap (λ b. b.plan) c.requires.of) ∙ sym (ap (λ p. p.board.plan) c.pass.view_is) in
    let told : IsTold (both_view v w) = subst (λ m. IsTold m.0) c.join_seat.ensures.2 c.load.ensures.2.1 in
    let both = both_pass v w _ _ _ _ _ _ _ _ c.pass.invariant.1 c.other.invariant.1 same told in
    let is = both.done_is in
    let most = done_at_most (both_view v w) told in
    let few = told.setting.few_slots in
    omega arith

pub invariant_of-pass : goal.invariant_of-pass
invariant_of-pass g c =
    let v = c.pass.inside.seat.me.0 in
    let w = c.other.inside.seat.me.0 in
    let same : plan_of w ≡ plan_of v =
    ap (λ p. p.board.plan) c.other.view_is ∙ ap (λ b. b.plan) c.requires.other ∙ sym (ap (λ b. b.plan) c.requires.of) ∙ sym (ap (λ p. p.board.plan) c.pass.view_is) in
    let told : IsTold (both_view v w) = subst (λ m. IsTold m.0) c.join_seat.ensures.2 c.load.ensures.2.1 in
    let both = both_pass v w _ _ _ _ _ _ _ _ c.pass.invariant.1 c.other.invariant.1 same told in
    let me = c.load.ensures.2.0 ∙ c.join_seat.ensures.2 in
    (ap (λ m. m.1) me ∙ c.pass.invariant.0, pass_as (both_view v w) c.load.new.seat.me.0 _ _ _ _ _ _ both (ap (λ m. m.0) me) refl refl)

pub returns-clause-whole : goal.returns-clause-whole
returns-clause-whole g c =
    let me = c.load.ensures.2.0 ∙ c.join_seat.ensures.2 in
    let t : IsTold c.load.new.seat.me.0 = subst (λ m. IsTold m.0) (sym c.load.ensures.2.0) c.load.ensures.2.1 in
    let slots = ap (λ m. m.0.slots) me ∙ ap (λ p. p.board.plan.slots) c.pass.view_is ∙ ap (λ b. b.plan.slots) c.requires.of in
    subst (λ os. WholeHoldsEvery os c.load.new.seat.me.0.worker) slots t.whole
