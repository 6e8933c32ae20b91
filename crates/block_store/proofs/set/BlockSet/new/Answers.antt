use Rattle.std.proofs.Common.{◌+◌, List, length, subst, sym, ap, ◌∙◌}
use Rattle.std.proofs.lemmas.List.{length_push}
use Rattle.bit_planes.specs.declared.block.Block.{Block}
use Rattle.block_store.specs.Fresh.{AreFresh, IsFreshBlock}
use Rattle.block_store.specs.Planes.{planes_in}
use Rattle.block_store.specs.Stored.{shape_of_plan}
use Rattle.block_store.proofs.Fresh.{one_block}
use Rattle.block_store.proofs.set.BlockSet.new.Goals as goal

pub fresh-preserved : goal.fresh-preserved
fresh-preserved c =
    let shape = shape_of_plan c.args.plan.now in
    let blocks = c.fresh.blocks.items in
    let block = c.in_ok-fresh_block.field-0 in
    let at : IsFreshBlock shape (length blocks) (planes_in block) = subst (λ k. IsFreshBlock shape k (planes_in block)) (sym c.fresh.invariant.0) c.in_ok-fresh_block.ensures in (
      ap length c.in_ok-push.ensures.items ∙ length_push blocks block ∙ ap (λ n. n + 1) c.fresh.invariant.0,
      subst (λ (bs : List Block). AreFresh shape bs) (sym c.in_ok-push.ensures.items) (one_block shape blocks block c.fresh.invariant.1 at),
    )
