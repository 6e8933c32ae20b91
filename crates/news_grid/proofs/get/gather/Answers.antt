use Rattle.std.proofs.Common.{ℕ, ◌∙◌, ◌+◌, ap, refl, sym, subst, false, List, length, ◌<◌, ◌≤◌, arith}
use Rattle.std.proofs.lemmas.List.{length-map}
use Rattle.cstar_base.specs.declared.operators.Winner.{Winner}
use Rattle.cstar_base.specs.declared.operators.Winner.TheVariants as W
use Rattle.vp_sets.specs.Positions.{position_count}
use Rattle.vp_sets.specs.Blocks.{block_count}
use Rattle.bit_planes.specs.declared.block.Block.{Block}
use Rattle.paris_code.specs.Fetching.{of_named}
use Rattle.paris_code.specs.Shapes.{bits_at}
use Rattle.phase_meaning.specs.Gathered.{gathered}
use Rattle.block_store.specs.Planes.{HasPlanes}
use Rattle.block_store.specs.Stored.{shape_of_plan, shapes_in, memory_in, blocks_in}
use Rattle.block_store.proofs.AllBlocks.{blocks_written, blocks_whole}
use Rattle.block_store.proofs.Fetches.{bits_of, room_much}
use Rattle.block_store.proofs.Stores.{held, few_blocks}
use Rattle.news_grid.proofs.Fetches.{taken}
use Rattle.news_grid.proofs.get.gather.Goals as goal

pub spread-requires-clause-taking : goal.spread-requires-clause-taking
spread-requires-clause-taking g c κs live =
    let shapes = shapes_in c.args.store.now in
    let sets = c.args.store.now.sets.items in
    let get = c.args.get in
    let from = bits_of c.args.store.now.plans.items get.source.set c.from-from.result c.index.result.now c.requires.source.0 c.from-from.ensures c.index.ensures in
    let plan = bits_of c.args.store.now.plans.items get.dest.set c.from-to.result c.index-3.result.now c.requires.dest.0 c.from-to.ensures c.index-3.ensures in
    record {
      len = (c.requires.dest.1, c.requires.dest.2);
      dest = omega (arith, c.requires.dest.3, plan.0);
      address_len = (c.requires.address.1, c.requires.address.2);
      address = omega (arith, c.requires.address.3, plan.0, ap (bits_at shapes) c.requires.together);
      held = omega (
        arith,
        c.positions-count.ensures.value,
        ap position_count from.1,
        room_much shapes sets get.source.set c.requires.whole c.requires.source.0,
        c.requires.room get.source.set (omega (arith, c.requires.source.0, length-map c.args.store.now.plans.items shape_of_plan)),
        c.lift.ensures.count,
        ap length c.as_slice.ensures.value,
      );
    }

pub spread-requires-clause-planes : goal.spread-requires-clause-planes
spread-requires-clause-planes g c κs live =
    let shapes = shapes_in c.args.store.now in
    let sets = c.args.store.now.sets.items in
    let d = c.args.get.dest.set in
    let plan = bits_of c.args.store.now.plans.items d c.from-to.result c.index-3.result.now c.requires.dest.0 c.from-to.ensures c.index-3.ensures in
    let has : HasPlanes (bits_at shapes d + 2) (blocks_in c.index_mut.result.now) =
    subst (λ (bs : List Block). HasPlanes (bits_at shapes d + 2) bs) (sym (held shapes sets d c.from-to.result c.index_mut.result.now c.requires.whole c.requires.dest.0 c.from-to.ensures c.index_mut.ensures.value))
    (c.requires.whole.each d c.requires.dest.0).planes in
    λ k none b. omega (arith, has k none b, plan.0)

pub spread-requires-clause-blocks : goal.spread-requires-clause-blocks
spread-requires-clause-blocks g c κs live =
    let shapes = shapes_in c.args.store.now in
    let sets = c.args.store.now.sets.items in
    let d = c.args.get.dest.set in
    let plan = bits_of c.args.store.now.plans.items d c.from-to.result c.index-3.result.now c.requires.dest.0 c.from-to.ensures c.index-3.ensures in
    ap length (held shapes sets d c.from-to.result c.index_mut.result.now c.requires.whole c.requires.dest.0 c.from-to.ensures c.index_mut.ensures.value) ∙ (c.requires.whole.each d c.requires.dest.0).count ∙ sym (ap block_count plan.1)

pub spread-requires-clause-few : goal.spread-requires-clause-few
spread-requires-clause-few g c κs live =
    let shapes = shapes_in c.args.store.now in
    let sets = c.args.store.now.sets.items in
    let d = c.args.get.dest.set in
    omega (
      arith,
      ap length (held shapes sets d c.from-to.result c.index_mut.result.now c.requires.whole c.requires.dest.0 c.from-to.ensures c.index_mut.ensures.value),
      few_blocks shapes sets d c.requires.whole c.requires.dest.0,
    )

pub returns : goal.returns
returns g c =
    let shapes = shapes_in c.args.store.now in
    let sets = c.args.store.now.sets.items in
    let plans = c.args.store.now.plans.items in
    let get = c.args.get in
    let source = get.source in
    let d = get.dest.set in
    let to = c.index_mut.result.now in
    let from = c.index-2.result.now in
    let whole = c.requires.whole in
    let exists = c.requires.dest.0 in
    let home = held shapes sets d c.from-to.result to whole exists c.from-to.ensures c.index_mut.ensures.value in
    let there = held shapes sets source.set c.from-from.result from whole c.requires.source.0 c.from-from.ensures c.index-2.ensures in
    let from_plan = bits_of plans source.set c.from-from.result c.index.result.now c.requires.source.0 c.from-from.ensures c.index.ensures in
    let plan = bits_of plans d c.from-to.result c.index-3.result.now exists c.from-to.ensures c.index-3.ensures in
    let room : length (blocks_in from) ≤ length c.lift.new.room.cells.items =
    omega (arith, ap length there, c.lift.ensures.count, c.requires.room source.set (omega (arith, c.requires.source.0, length-map plans shape_of_plan))) in
    let each =
    λ (w : Winner) (j : ℕ) (none : Block) (b : j < length (blocks_in to)).
    taken shapes sets whole source c.requires.source from there c.lift.new.room.cells.items room
    (record { plan = c.index-3.result; cells = c.as_slice.result; count = c.positions-count.result; dest = get.dest; address = get.address })
    (λ k i n other kb h ib. c.lift.ensures.words k i n other kb (omega (arith, c.lift.ensures.count, h)) ib)
    (sym c.as_slice.ensures.value) (c.positions-count.ensures.value ∙ ap position_count from_plan.1) (sym c.requires.together) plan.1 plan.0
    w (blocks_in to) home j none _ b (c.spread.ensures.each j none b) in
    let kept = blocks_whole shapes sets to c.spread.new.set c.from-to.result (gathered shapes (memory_in c.args.store.now W.High) get.dest false (of_named shapes (memory_in c.args.store.now W.High) get.address source))
    whole exists c.from-to.ensures c.index_mut.ensures.value c.spread.ensures.count (each W.High) in
    record {
      whole = kept;
      room = λ set b.
          let known : set < length shapes = omega (arith, length-map plans shape_of_plan) in
          omega (arith, (kept.each set known).count, (whole.each set known).count, c.requires.room set b, c.lift.ensures.count);
      shapes = refl;
      memory = λ w.
          blocks_written shapes sets to c.spread.new.set c.from-to.result (gathered shapes (memory_in c.args.store.now w) get.dest false (of_named shapes (memory_in c.args.store.now w) get.address source))
          whole exists c.from-to.ensures c.index_mut.ensures.value c.spread.ensures.count (each w) w;
    }
