use Rattle.std.proofs.Common.{◌∙◌, ◌+◌, List, ◌∷◌, ap, drop, map, sym}
use Rattle.std.proofs.lemmas.List.{at_drop_all, at_drop_more}
use Rattle.cstar_tree.specs.declared.typed.LocalVar.{LocalVar}
use Rattle.cstar_tree.specs.TypedParts.{calls_in, concat, optional}
use Rattle.shape_room.proofs.AddedCalls.{all_added, begun_more}
use Rattle.shape_room.proofs.CallsInParts.{calls_append}
use Rattle.shape_room.proofs.calls.initials.Goals as goal

pub returns : goal.returns
unfolding concat
returns c =
    all_added _ _ c.loop-local.invariant (at_drop_all (λ (ls : List LocalVar). concat (map calls_in (concat (map (λ (l : LocalVar). optional l.initial) ls)))) c.args.locals.now c.loop-local.local-index c.loop-local-test.false)

pub loop-local-preserved : goal.loop-local-preserved
unfolding concat
loop-local-preserved c =
    let left = λ (ls : List LocalVar). concat (map calls_in (concat (map (λ (l : LocalVar). optional l.initial) ls))) in
    let rest = drop (c.loop-local.local-index + 1) c.args.locals.now in
    let next = at_drop_more left c.args.locals.now c.loop-local.local-index c.local-item.result c.loop-local-test.true ∙ ap (λ (l : LocalVar). left (l ∷ rest)) (sym c.local-item.is)
    ∙ calls_append (optional c.local-item.result.initial) (concat (map (λ (l : LocalVar). optional l.initial) rest)) in
    begun_more _ _ _ c.loop-local.invariant next c.in_ok-optional_expression.ensures
