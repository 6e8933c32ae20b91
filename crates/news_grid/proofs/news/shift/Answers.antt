use Rattle.std.proofs.Common.{ℕ, ◌∙◌, ap, refl, sym, subst, length, ◌<◌, FitsSigned, w32, rules, arith}
use Rattle.std.specs.Prelude.{ℤ}
use Rattle.std.proofs.lemmas.Int.{to_z-of_z}
use Rattle.std.proofs.lemmas.List.{length-map}
use Rattle.cstar_base.specs.declared.operators.Winner.{Winner}
use Rattle.cstar_base.specs.declared.operators.Winner.TheVariants as W
use Rattle.vp_sets.specs.Blocks.{block_count}
use Rattle.bit_planes.specs.declared.block.Block.{Block}
use Rattle.paris_code.specs.Fetching.{of_neighbour}
use Rattle.phase_meaning.specs.Gathered.{gathered}
use Rattle.block_store.specs.Stored.{shape_of_plan, shapes_in, memory_in, blocks_in}
use Rattle.block_store.proofs.AllBlocks.{blocks_written, blocks_whole}
use Rattle.block_store.proofs.Fetches.{bits_of}
use Rattle.block_store.proofs.Stores.{held, few_blocks}
use Rattle.news_grid.specs.Steps.{Leads}
use Rattle.news_grid.proofs.Fetches.{stepped}
use Rattle.news_grid.proofs.news.shift.Goals as goal

pub hold-requires-clause-few : goal.hold-requires-clause-few
hold-requires-clause-few g c κs live =
    let shapes = shapes_in c.args.store.now in
    let sets = c.args.store.now.sets.items in
    let source = c.args.shift.source in
    let there = held shapes sets source.set c.from-set.result c.index.result.now c.requires.whole c.requires.source.0 (c.from-set.ensures ∙ c.requires.together) c.index.ensures in
    omega (arith, ap length there, few_blocks shapes sets source.set c.requires.whole c.requires.source.0)

pub hold-requires-clause-room : goal.hold-requires-clause-room
hold-requires-clause-room g c κs live =
    let shapes = shapes_in c.args.store.now in
    let sets = c.args.store.now.sets.items in
    let source = c.args.shift.source in
    let there = held shapes sets source.set c.from-set.result c.index.result.now c.requires.whole c.requires.source.0 (c.from-set.ensures ∙ c.requires.together) c.index.ensures in
    omega (arith, ap length there, c.requires.room source.set (omega (arith, c.requires.source.0, length-map c.args.store.now.plans.items shape_of_plan)))

pub step_blocks-requires-clause-taking : goal.step_blocks-requires-clause-taking
step_blocks-requires-clause-taking g c κs live =
    let shapes = shapes_in c.args.store.now in
    let sets = c.args.store.now.sets.items in
    let plans = c.args.store.now.plans.items in
    let dest = c.args.shift.dest in
    let whole = c.requires.whole in
    let exists = c.requires.dest.0 in
    let plan = bits_of plans dest.set c.from-set.result c.index-plan.result.now exists c.from-set.ensures c.index-plan.ensures in
    let all = (whole.each dest.set exists).count in
    let fits : FitsSigned w32 c.signed.result = search rules in
    record {
      len = (c.requires.dest.1, c.requires.dest.2);
      dest = omega (arith, c.requires.dest.3, plan.0);
      blocks = c.block_count.ensures.value;
      few = omega (arith, c.block_count.ensures.value, ap block_count plan.1, all, few_blocks shapes sets dest.set whole exists);
      held = omega (
        arith,
        c.block_count.ensures.value,
        ap block_count plan.1,
        all,
        c.requires.room dest.set (omega (arith, exists, length-map plans shape_of_plan)),
        c.hold.ensures.count,
        c.hold.new.room.enough,
        ap length c.as_slice.ensures.value,
      );
      leads = subst (λ (by : ℤ). Leads c.index-plan.result.now.geometry c.args.shift.axis by c.along.result) (to_z-of_z w32 c.signed.result fits ∙ c.signed.ensures) c.along.ensures;
    }

pub returns : goal.returns
returns g c =
    let shapes = shapes_in c.args.store.now in
    let sets = c.args.store.now.sets.items in
    let plans = c.args.store.now.plans.items in
    let shift = c.args.shift in
    let source = shift.source in
    let d = shift.dest.set in
    let to = c.index_mut.result.now in
    let from = c.index.result.now in
    let whole = c.requires.whole in
    let exists = c.requires.dest.0 in
    let home = held shapes sets d c.from-set.result to whole exists c.from-set.ensures c.index_mut.ensures.value in
    let there = held shapes sets source.set c.from-set.result from whole c.requires.source.0 (c.from-set.ensures ∙ c.requires.together) c.index.ensures in
    let plan = bits_of plans d c.from-set.result c.index-plan.result.now exists c.from-set.ensures c.index-plan.ensures in
    let each =
    λ (w : Winner) (j : ℕ) (none : Block) (b : j < length (blocks_in to)).
    stepped shapes sets whole source c.requires.source from there c.hold.new.room.held.items c.hold.ensures.planes
    (record { plan = c.index-plan.result; blocks = c.block_count.result; held = c.as_slice.result; shift = shift; step = c.along.result }) refl
    (sym c.as_slice.ensures.value) c.requires.lens c.requires.together c.requires.axis plan.1 plan.0
    w (blocks_in to) home j none _ b (c.step_blocks.ensures.each j none b) in
    let kept = blocks_whole shapes sets to c.step_blocks.new.set c.from-set.result
    (gathered shapes (memory_in c.args.store.now W.High) shift.dest shift.always (of_neighbour shapes (memory_in c.args.store.now W.High) source shift.axis shift.by))
    whole exists c.from-set.ensures c.index_mut.ensures.value c.step_blocks.ensures.count (each W.High) in
    record {
      whole = kept;
      room = λ set b.
          let known : set < length shapes = omega (arith, length-map plans shape_of_plan) in
          omega (arith, (kept.each set known).count, (whole.each set known).count, c.requires.room set b, c.hold.ensures.count);
      shapes = refl;
      memory = λ w.
          blocks_written shapes sets to c.step_blocks.new.set c.from-set.result (gathered shapes (memory_in c.args.store.now w) shift.dest shift.always (of_neighbour shapes (memory_in c.args.store.now w) source shift.axis shift.by))
          whole exists c.from-set.ensures c.index_mut.ensures.value c.step_blocks.ensures.count (each w) w;
    }
