use Rattle.std.proofs.Common.{ℕ, ◌<◌, refl, length, arith}
use Rattle.std.specs.Prelude.{slice_index}
use Rattle.std.proofs.lemmas.List.{length-map}
use Rattle.cstar_base.specs.Numbers.{converted}
use Rattle.bit_planes.specs.declared.block.Block.{Block}
use Rattle.paris_code.specs.Fetching.{at_all}
use Rattle.paris_code.specs.Sending.{word_kind}
use Rattle.block_store.specs.Stored.{shape_of_plan, shapes_in, blocks_in}
use Rattle.block_store.proofs.AllBlocks.{blocks_written, blocks_whole}
use Rattle.block_store.proofs.Fetches.{bits_of}
use Rattle.combine_send.proofs.Taken.{taken}
use Rattle.combine_send.proofs.back.put_back.Goals as goal

pub returns : goal.returns
returns c =
    let shapes = shapes_in c.args.store.now in
    let sets = c.args.store.now.sets.items in
    let plans = c.args.store.now.plans.items in
    let send = c.args.send.now in
    let words = c.args.words.now in
    let whole = c.requires.whole in
    let exists = c.requires.dest.0 in
    let set = c.index_mut.result.now in
    let plan = c.index.result.now in
    let fits = bits_of plans send.dest.set c.from-set.result plan exists c.from-set.ensures c.index.ensures in
    let write = at_all send.dest (λ t. converted send.kind word_kind (slice_index words t)) in
    let each =
    λ (j : ℕ) (none : Block) (b : j < length (blocks_in set)).
    taken shapes send words plan.geometry plan.bits j _ _ fits.1 fits.0 (c.take_all.ensures.each j none b) in
    let kept = blocks_whole shapes sets set c.take_all.new.set c.from-set.result write whole exists c.from-set.ensures c.index_mut.ensures.value c.take_all.ensures.count each in
    record {
      whole = kept;
      room = λ set b.
          let known : set < length shapes = omega (arith, length-map plans shape_of_plan) in
          omega (arith, (kept.each set known).count, (whole.each set known).count, c.requires.room set b);
      shapes = refl;
      memory = λ w. blocks_written shapes sets set c.take_all.new.set c.from-set.result write whole exists c.from-set.ensures c.index_mut.ensures.value c.take_all.ensures.count each w;
    }
