use Rattle.std.proofs.Common.{length, Some, sym, ap, ◌∙◌, arith}
use Rattle.std.proofs.lemmas.Option.{slice_get-get_or}
use Rattle.combine_core.proofs.Steps.{target_within}
use Rattle.combine_board.proofs.board.Board.bring_near.Goals as goal

pub peek-requires : goal.peek-requires
peek-requires g c =
    let slots = c.self.inside.task.slots.items in
    let long = ap (λ b. length b.plan.slots) c.self.view_is in
    let there = slice_get-get_or slots c.loop-index.index _ (omega (arith, long, c.requires, c.loop-index-test.true)) ∙ ap Some (sym c.index.ensures) ∙ ap Some c.in-Some.is in
    let below = target_within slots c.self.inside.task.home.items c.self.invariant.2 c.loop-index.index c.in-Some.message there in
    let wide = c.self.invariant.1 in
    omega arith
