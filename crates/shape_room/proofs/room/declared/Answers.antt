use Rattle.std.proofs.Common.{◌∙◌, ◌+◌, List, ◌∷◌, ap, drop, map, sym}
use Rattle.std.proofs.lemmas.List.{at_drop_all, at_drop_more}
use Rattle.cstar_tree.specs.declared.typed.LocalVar.{LocalVar}
use Rattle.cstar_tree.specs.Room.{bits_of}
use Rattle.cstar_tree.specs.TypedParts.{total}
use Rattle.shape_room.proofs.Counting.{sum_more, sum_of_all}
use Rattle.shape_room.proofs.room.declared.Goals as goal

pub returns : goal.returns
unfolding total
returns c =
    sum_of_all _ _ c.loop-local.invariant (at_drop_all (λ (ls : List LocalVar). total (map (λ (l : LocalVar). bits_of c.args.shape l.info) ls)) c.args.locals.now c.loop-local.local-index c.loop-local-test.false)

pub loop-local-preserved : goal.loop-local-preserved
unfolding total
loop-local-preserved c =
    let left = λ (ls : List LocalVar). total (map (λ (l : LocalVar). bits_of c.args.shape l.info) ls) in
    let rest = drop (c.loop-local.local-index + 1) c.args.locals.now in
    let next = at_drop_more left c.args.locals.now c.loop-local.local-index c.local-item.result c.loop-local-test.true ∙ ap (λ (l : LocalVar). left (l ∷ rest)) (sym c.local-item.is) in
    sum_more _ _ _ _ c.loop-local.invariant next c.bits.ensures c.saturating_add-sum.ensures
