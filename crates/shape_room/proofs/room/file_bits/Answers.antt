use Rattle.std.proofs.Common.{◌∙◌, ◌+◌, List, ◌∷◌, ap, drop, map, sym}
use Rattle.std.proofs.lemmas.List.{at_drop_all, at_drop_more}
use Rattle.cstar_tree.specs.declared.typed.VarInfo.{VarInfo}
use Rattle.cstar_tree.specs.Room.{bits_of}
use Rattle.cstar_tree.specs.TypedParts.{total}
use Rattle.shape_room.proofs.Counting.{sum_more, sum_of_all}
use Rattle.shape_room.proofs.room.file_bits.Goals as goal

pub returns : goal.returns
unfolding total
returns c = sum_of_all _ _ c.loop-info.invariant (at_drop_all (λ (vs : List VarInfo). total (map (bits_of c.args.shape) vs)) c.args.vars.now c.loop-info.info-index c.loop-info-test.false)

pub loop-info-preserved : goal.loop-info-preserved
unfolding total
loop-info-preserved c =
    let left = λ (vs : List VarInfo). total (map (bits_of c.args.shape) vs) in
    let rest = drop (c.loop-info.info-index + 1) c.args.vars.now in
    let next = at_drop_more left c.args.vars.now c.loop-info.info-index c.info-item.result c.loop-info-test.true ∙ ap (λ (v : VarInfo). left (v ∷ rest)) (sym c.info-item.is) in
    sum_more _ _ _ _ c.loop-info.invariant next c.bits.ensures c.saturating_add-sum.ensures
