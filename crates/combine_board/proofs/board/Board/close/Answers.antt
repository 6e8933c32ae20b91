use Rattle.std.proofs.Common.{◌≡◌, ◌<◌, ◌+◌, length, slice_index, sym, ap, ◌∙◌, subst, arith}
use Rattle.std.specs.Mem.Slots.{slots_items}
use Rattle.combine_core.specs.Encodings.{decoded}
use Rattle.combine_core.specs.Machine.{held_by, IsComplete}
use Rattle.combine_board.specs.Values.{Plan}
use Rattle.combine_board.proofs.Calls.{task_plan}
use Rattle.combine_board.proofs.Passes.{closed_word, IsClosed}
use Rattle.combine_board.proofs.board.Board.close.Goals as goal

pub decode_cells-requires-clause-fits : goal.decode_cells-requires-clause-fits
decode_cells-requires-clause-fits g c t below =
    let k = c.self.inside.table.shared.key in
    let ws = slots_items c.close_with-closed.result.words in
    let a : Plan = task_plan (g.C.Combine.combines k.combiner) k.slots.items k.home.items in
    let key : a ≡ c.args.self.plan = ap (λ t. task_plan (g.C.Combine.combines t.combiner) t.slots.items t.home.items) c.self.invariant.0 ∙ ap (λ b. b.plan) c.self.view_is in
    let task : c.args.self.plan ≡ task_plan (g.C.Combine.combines c.self.inside.task.combiner) c.self.inside.task.slots.items c.self.inside.task.home.items = sym (ap (λ b. b.plan) c.self.view_is) in
    let complete : IsComplete a.slots (held_by c.pass.inside.seat.me.0.worker) =
    subst (λ (p : Plan). IsComplete p.slots (held_by c.pass.inside.seat.me.0.worker)) (sym key) (subst (λ w. IsComplete c.args.self.plan.slots (held_by w)) (sym (ap (λ p. p.worker) c.pass.view_is)) c.requires.complete) in
    (subst (λ (p : Plan). IsClosed p ws) (key ∙ task) (closed_word a _ _ ws _ c.close_with-closed.ensures.values.2 complete) t below).1

pub free-requires : goal.free-requires
free-requires g c i below = absurd (let n = c.close_with-closed.ensures.counts.1 in let z = c.self.invariant.3 in omega arith)

pub returns-clause-folded : goal.returns-clause-folded
returns-clause-folded g c t below =
    let k = c.self.inside.table.shared.key in
    let ws = slots_items c.close_with-closed.result.words in
    let a : Plan = task_plan (g.C.Combine.combines k.combiner) k.slots.items k.home.items in
    let key : a ≡ c.args.self.plan = ap (λ t. task_plan (g.C.Combine.combines t.combiner) t.slots.items t.home.items) c.self.invariant.0 ∙ ap (λ b. b.plan) c.self.view_is in
    let complete : IsComplete a.slots (held_by c.pass.inside.seat.me.0.worker) =
    subst (λ (p : Plan). IsComplete p.slots (held_by c.pass.inside.seat.me.0.worker)) (sym key) (subst (λ w. IsComplete c.args.self.plan.slots (held_by w)) (sym (ap (λ p. p.worker) c.pass.view_is)) c.requires.complete) in
    let closed : IsClosed c.args.self.plan ws = subst (λ (p : Plan). IsClosed p ws) key (closed_word a _ _ ws _ c.close_with-closed.ensures.values.2 complete) in
    let inside : t < length c.self.inside.task.home.items = (let e = ap (λ b. length b.plan.home) c.self.view_is in omega arith) in
    ap (λ xs. slice_index xs t) c.of.ensures ∙ c.decode_cells.ensures.words t inside
    ∙ ap (λ b. decoded b.plan.kind (slice_index b.plan.home t) (slice_index ws (t + 1))) c.self.view_is
    ∙ (closed t below).0
