use Rattle.std.proofs.Common.{◌≡◌, ◌≤◌, ◌∙◌, ap, subst, List, length, arith}
use Rattle.std.proofs.lemmas.List.{length-map}
use Rattle.bit_planes.specs.declared.block.Block.{Block}
use Rattle.paris_code.specs.Shapes.{bits_at}
use Rattle.block_store.specs.Stored.{shape_of_plan, shapes_in, blocks_in, blocks_at}
use Rattle.block_store.proofs.Stores.{held, few_blocks}
use Rattle.block_store.proofs.Fetches.{bits_of}
use Rattle.reduce_scan.proofs.Totals.{Folds, joined_is, all_blocks}
use Rattle.reduce_scan.proofs.total.reduce.Goals as goal

pub fold_blocks-requires-clause-few : goal.fold_blocks-requires-clause-few
fold_blocks-requires-clause-few g c κs live =
    let shapes = shapes_in c.args.store.now in
    let sets = c.args.store.now.sets.items in
    omega (
      arith,
      ap length (held shapes sets c.args.source.set c.from-at.result c.index-3.result.now c.requires.whole c.requires.source.0 c.from-at.ensures c.index-3.ensures),
      few_blocks shapes sets c.args.source.set c.requires.whole c.requires.source.0,
    )

pub returns-clause-result : goal.returns-clause-result
returns-clause-result g c = λ w.
    let shapes = shapes_in c.args.store.now in
    let sets = c.args.store.now.sets.items in
    let plans = c.args.store.now.plans.items in
    let source = c.args.source in
    let r = c.args.combiner in
    let cells = c.fold_blocks.new.room.cells.items in
    let n = c.len-blocks.result in
    let exists = c.requires.source.0 in
    let same = held shapes sets source.set c.from-at.result c.index-3.result.now c.requires.whole exists c.from-at.ensures c.index-3.ensures in
    let same_too = held shapes sets source.set c.from-at.result c.index-2.result.now c.requires.whole exists c.from-at.ensures c.index-2.ensures in
    let bits = (bits_of plans source.set c.from-at.result c.index.result.now exists c.from-at.ensures c.index.ensures).0 in
    let all : n ≡ length (blocks_at sets source.set) = omega (arith, c.len-blocks.ensures, ap length same_too) in
    let much : length (blocks_at sets source.set) ≤ length cells =
    omega (arith, c.requires.room source.set (omega (arith, exists, length-map plans shape_of_plan)), c.fold_blocks.ensures.count) in
    let folds : Folds r cells source (blocks_at sets source.set) (bits_at shapes source.set) =
    subst (λ (bs : List Block). Folds r cells source bs (bits_at shapes source.set)) same
    (subst (λ x. Folds r cells source (blocks_in c.index-3.result.now) x) bits
    (λ k none other b h. c.fold_blocks.ensures.folds k none other b (omega (arith, c.fold_blocks.ensures.count, h)))) in
    c.join_folds.ensures
    ∙ joined_is shapes sets c.requires.whole r source exists w cells much folds n (omega (arith, all))
    ∙ all_blocks shapes sets c.requires.whole r source exists w n all

pub returns-clause-room : goal.returns-clause-room
returns-clause-room g c = λ set b. omega (arith, c.requires.room set b, c.fold_blocks.ensures.count)
