use Rattle.std.proofs.Common.{◌∙◌, ◌+◌, ◌∷◌, ap, drop, sym}
use Rattle.std.proofs.lemmas.List.{at_drop_all, at_drop_more}
use Rattle.cstar_tree.specs.declared.typed.VarInfo.{VarInfo}
use Rattle.cstar_tree.specs.Room.{passed_bits}
use Rattle.shape_room.proofs.Counting.{sum_more, sum_of_all, whole}
use Rattle.shape_room.proofs.room.passed.Goals as goal

pub returns : goal.returns
unfolding passed_bits
returns c = sum_of_all _ _ c.loop-info.invariant (at_drop_all (passed_bits c.args.shape) c.args.infos.now c.loop-info.info-index c.loop-info-test.false)

pub loop-info-preserved : goal.loop-info-preserved
unfolding passed_bits
loop-info-preserved c =
    let rest = drop (c.loop-info.info-index + 1) c.args.infos.now in
    let next = at_drop_more (passed_bits c.args.shape) c.args.infos.now c.loop-info.info-index c.info-item.result c.loop-info-test.true ∙ ap (λ (v : VarInfo). passed_bits c.args.shape (v ∷ rest)) (sym c.info-item.is) in
    sum_more _ _ _ _ c.loop-info.invariant next (whole c.on_shape.ensures c.on_shape.type_inv) c.saturating_add-room.ensures
