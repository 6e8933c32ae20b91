use Rattle.std.proofs.Common.{◌≡◌, sym, ap, ◌∙◌, arith}
use Rattle.combine_board.specs.Values.{Plan}
use Rattle.combine_board.specs.Rule.{plan_of}
use Rattle.combine_board.proofs.Calls.{task_plan}
use Rattle.combine_board.proofs.Steps.{splits}
use Rattle.combine_board.proofs.board.Board.split.Goals as goal

pub split_seat-seat-requires : goal.split_seat-seat-requires
split_seat-seat-requires g c =
    let k = c.self.inside.table.shared.key in
    let a : Plan = task_plan (g.C.Combine.combines k.combiner) k.slots.items k.home.items in
    let table : c.pass.inside.seat.table_id ≡ c.self.inside.table.shared.table_id = ap (λ p. p.board.id) c.pass.view_is ∙ ap (λ b. b.id) c.requires ∙ sym (ap (λ b. b.id) c.self.view_is) in
    let plan : plan_of c.pass.inside.seat.me.0 ≡ a =
    ap (λ p. p.board.plan) c.pass.view_is ∙ ap (λ b. b.plan) c.requires ∙ sym (ap (λ b. b.plan) c.self.view_is)
    ∙ ap (λ t. task_plan (g.C.Combine.combines t.combiner) t.slots.items t.home.items) (sym c.self.invariant.0) in
    (table, omega arith, splits a c.pass.inside.seat.id c.pass.inside.seat.me.0 c.pass.invariant.1.live plan)
