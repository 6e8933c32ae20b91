use Rattle.std.proofs.Common.{◌∙◌, ◌+◌, List, ◌∷◌, ap, drop, map, sym}
use Rattle.std.proofs.lemmas.List.{at_drop_all, at_drop_more}
use Rattle.cstar_tree.specs.declared.typed.LocalVar.{LocalVar}
use Rattle.cstar_tree.specs.Room.{expression_room, greatest}
use Rattle.cstar_tree.specs.TypedParts.{concat, optional}
use Rattle.shape_room.proofs.Counting.{greatest_more, greatest_of_all}
use Rattle.shape_room.proofs.StatementRooms.{greatest_append}
use Rattle.shape_room.proofs.room.initials.Goals as goal

pub returns : goal.returns
unfolding greatest concat
returns c =
    greatest_of_all _ _ c.loop-local.invariant (at_drop_all (λ (ls : List LocalVar). greatest (map (expression_room c.args.shape) (concat (map (λ (l : LocalVar). optional l.initial) ls)))) c.args.locals.now c.loop-local.local-index c.loop-local-test.false)

pub loop-local-preserved : goal.loop-local-preserved
unfolding concat
loop-local-preserved c =
    let left = λ (ls : List LocalVar). greatest (map (expression_room c.args.shape) (concat (map (λ (l : LocalVar). optional l.initial) ls))) in
    let rest = drop (c.loop-local.local-index + 1) c.args.locals.now in
    let next = at_drop_more left c.args.locals.now c.loop-local.local-index c.local-item.result c.loop-local-test.true ∙ ap (λ (l : LocalVar). left (l ∷ rest)) (sym c.local-item.is)
    ∙ greatest_append c.args.shape (optional c.local-item.result.initial) (concat (map (λ (l : LocalVar). optional l.initial) rest)) in
    greatest_more _ _ _ _ c.loop-local.invariant next c.optional_expression.ensures c.max-greatest.ensures
