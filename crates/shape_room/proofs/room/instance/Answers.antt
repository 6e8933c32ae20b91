use Rattle.std.proofs.Common.{◌∙◌, List, ap}
use Rattle.cstar_tree.specs.declared.typed.VarInfo.{VarInfo}
use Rattle.cstar_tree.specs.Room.{passed_bits}
use Rattle.shape_room.proofs.Counting.{sum, whole}
use Rattle.shape_room.specs.Counted.{counted}
use Rattle.shape_room.proofs.room.instance.Goals as goal

pub returns : goal.returns
returns c =
    let params = c.passed.ensures ∙ ap (λ (vs : List VarInfo). counted (passed_bits c.args.shape vs)) c.deref.ensures.value in
    let result = whole c.result_bits.ensures c.result_bits.type_inv in
    sum _ _ (sum _ _ params result c.saturating_add.ensures) c.statement.ensures c.saturating_add-2.ensures
