use Rattle.std.proofs.Common.{◌≡◌, ◌+◌, List, length, map, refl, sym, ◌∙◌, ap, subst, arith}
use Rattle.std.proofs.lemmas.List.{length-map}
use Rattle.vp_sets.specs.Blocks.{block_count}
use Rattle.paris_code.specs.Shapes.{bits_at, extents_at}
use Rattle.bit_planes.specs.declared.plane.Plane.{Plane}
use Rattle.block_store.specs.declared.set.SetPlan.{SetPlan}
use Rattle.block_store.specs.Planes.{HasPlanes}
use Rattle.block_store.specs.Stored.{shape_of_plan, shapes_in}
use Rattle.block_store.proofs.Stores.{held}
use Rattle.instruction_runs.specs.Passes.{held_in, PassFits}
use Rattle.instruction_runs.specs.Waiting.{AreReady}
use Rattle.instruction_runs.proofs.Settled.{pass_fits, set_exists, set_blocks, settled, settled_whole, settled_room, DidAll}
use Rattle.instruction_runs.proofs.Sources.{all_sourced, fields_in}
use Rattle.instruction_runs.proofs.settling.settle.Goals as goal

pub index-requires : goal.index-requires
index-requires g c =
    let batch = c.args.batch.now in
    let exists = set_exists (shapes_in c.args.store.now) batch.set batch.deferred.items c.requires.ready (sym c.is_empty.ensures ∙ c.if-is_empty.false) in
    omega (arith, exists, c.from-own.ensures, c.set.ensures, c.requires.whole.count)

pub hold_source-requires-clause-sources : goal.hold_source-requires-clause-sources
hold_source-requires-clause-sources g c κs within =
    let batch = c.args.batch.now in
    let shapes = shapes_in c.args.store.now in
    let exists = set_exists shapes batch.set batch.deferred.items c.requires.ready (sym c.is_empty.ensures ∙ c.if-is_empty.false) in
    fields_in shapes batch.set batch.deferred.items c.index.result.now.blocks.items c.requires.ready
    (set_blocks shapes c.args.store.now.sets.items c.index.result.now c.from-own.result batch.set c.requires.whole exists (c.from-own.ensures ∙ c.set.ensures) c.index.ensures).2

pub hold_source-requires-clause-few : goal.hold_source-requires-clause-few
hold_source-requires-clause-few g c κs within =
    let batch = c.args.batch.now in
    let shapes = shapes_in c.args.store.now in
    let exists = set_exists shapes batch.set batch.deferred.items c.requires.ready (sym c.is_empty.ensures ∙ c.if-is_empty.false) in
    omega (arith, (set_blocks shapes c.args.store.now.sets.items c.index.result.now c.from-own.result batch.set c.requires.whole exists (c.from-own.ensures ∙ c.set.ensures) c.index.ensures).0)

pub hold_source-requires-clause-room : goal.hold_source-requires-clause-room
hold_source-requires-clause-room g c κs within =
    let batch = c.args.batch.now in
    let shapes = shapes_in c.args.store.now in
    let exists = set_exists shapes batch.set batch.deferred.items c.requires.ready (sym c.is_empty.ensures ∙ c.if-is_empty.false) in
    omega (
      arith,
      ap length (held shapes c.args.store.now.sets.items batch.set c.from-own.result c.index.result.now c.requires.whole exists (c.from-own.ensures ∙ c.set.ensures) c.index.ensures),
      c.requires.room batch.set (omega (arith, exists, length-map c.args.store.now.plans.items shape_of_plan)),
    )

pub hold_source-requires-clause-turns : goal.hold_source-requires-clause-turns
hold_source-requires-clause-turns g c κs within = c.requires.ready.turns

pub index_mut-requires : goal.index_mut-requires
index_mut-requires g c =
    let batch = c.args.batch.now in
    let exists = set_exists (shapes_in c.args.store.now) batch.set batch.deferred.items c.requires.ready (sym c.is_empty.ensures ∙ c.if-is_empty.false) in
    omega (arith, exists, c.from-own.ensures, c.set.ensures, c.requires.whole.count)

pub do_all_in_set-requires-clause-ready : goal.do_all_in_set-requires-clause-ready
do_all_in_set-requires-clause-ready g c κs within =
    let batch = c.args.batch.now in
    subst (λ (ps : List SetPlan). AreReady (map shape_of_plan ps) batch.set batch.deferred.items) (sym c.as_slice.ensures.value) c.requires.ready

pub do_all_in_set-requires-clause-fits : goal.do_all_in_set-requires-clause-fits
do_all_in_set-requires-clause-fits g c κs within =
    let batch = c.args.batch.now in
    let shapes = shapes_in c.args.store.now in
    let exists = set_exists shapes batch.set batch.deferred.items c.requires.ready (sym c.is_empty.ensures ∙ c.if-is_empty.false) in
    subst (λ (ps : List SetPlan). PassFits (map shape_of_plan ps) batch.set c.as_slice-2.result.now) (sym c.as_slice.ensures.value)
    (subst (λ (hs : List Plane). PassFits shapes batch.set hs) (sym c.as_slice-2.ensures.value)
    (pass_fits shapes c.args.store.now.sets.items batch.set c.hold_source.new.room.held.items c.requires.whole exists
    (omega (
      arith,
      c.hold_source.ensures.count,
      c.hold_source.new.room.enough,
      c.requires.room batch.set (omega (arith, exists, length-map c.args.store.now.plans.items shape_of_plan)),
    ))))

pub do_all_in_set-requires-clause-few : goal.do_all_in_set-requires-clause-few
do_all_in_set-requires-clause-few g c κs within =
    let batch = c.args.batch.now in
    let exists = set_exists (shapes_in c.args.store.now) batch.set batch.deferred.items c.requires.ready (sym c.is_empty.ensures ∙ c.if-is_empty.false) in
    omega (arith, (set_blocks (shapes_in c.args.store.now) c.args.store.now.sets.items c.index_mut.result.now c.from-own.result batch.set c.requires.whole exists (c.from-own.ensures ∙ c.set.ensures) c.index_mut.ensures.value).0)

pub do_all_in_set-requires-clause-count : goal.do_all_in_set-requires-clause-count
do_all_in_set-requires-clause-count g c κs within =
    let batch = c.args.batch.now in
    let exists = set_exists (shapes_in c.args.store.now) batch.set batch.deferred.items c.requires.ready (sym c.is_empty.ensures ∙ c.if-is_empty.false) in
    subst (λ (ps : List SetPlan). length c.index_mut.result.now.blocks.items ≡ block_count (extents_at (map shape_of_plan ps) batch.set)) (sym c.as_slice.ensures.value)
    (set_blocks (shapes_in c.args.store.now) c.args.store.now.sets.items c.index_mut.result.now c.from-own.result batch.set c.requires.whole exists (c.from-own.ensures ∙ c.set.ensures) c.index_mut.ensures.value).1

pub do_all_in_set-requires-clause-planes : goal.do_all_in_set-requires-clause-planes
do_all_in_set-requires-clause-planes g c κs within =
    let batch = c.args.batch.now in
    let exists = set_exists (shapes_in c.args.store.now) batch.set batch.deferred.items c.requires.ready (sym c.is_empty.ensures ∙ c.if-is_empty.false) in
    subst (λ (ps : List SetPlan). HasPlanes (bits_at (map shape_of_plan ps) batch.set + 2) c.index_mut.result.now.blocks.items) (sym c.as_slice.ensures.value)
    (set_blocks (shapes_in c.args.store.now) c.args.store.now.sets.items c.index_mut.result.now c.from-own.result batch.set c.requires.whole exists (c.from-own.ensures ∙ c.set.ensures) c.index_mut.ensures.value).2

pub returns : goal.returns
returns g c =
    let batch = c.args.batch.now in
    let ds = batch.deferred.items in
    let shapes = shapes_in c.args.store.now in
    let sets = c.args.store.now.sets.items in
    let own = batch.set in
    let from = c.index.result.now in
    let old = c.index_mut.result.now in
    let new = c.do_all_in_set.new.set in
    let planes = c.hold_source.new.room.held.items in
    let whole = c.requires.whole in
    let exists = set_exists shapes own ds c.requires.ready (sym c.is_empty.ensures ∙ c.if-is_empty.false) in
    let there = c.from-own.ensures ∙ c.set.ensures in
    let each : DidAll c.args.store.now.plans.items planes own ds old new =
    subst (λ (ps : List SetPlan). DidAll ps planes own ds old new) c.as_slice.ensures.value
    (subst (λ (cs : List Plane). DidAll c.as_slice.result.now cs own ds old new) c.as_slice-2.ensures.value c.do_all_in_set.ensures.each) in
    record {
      whole = settled_whole shapes sets old new c.from-own.result own ds (held_in planes) whole exists there c.index_mut.ensures.value c.requires.ready c.do_all_in_set.ensures.count each;
      room = λ s b. omega (
        arith,
        c.hold_source.ensures.count,
        settled_room shapes sets old new c.from-own.result own ds (held_in planes) whole exists there c.index_mut.ensures.value c.requires.ready c.do_all_in_set.ensures.count each
            (length c.args.store.now.plans.items) (length c.args.store.now.room.cells.items) c.requires.room s b,
      );
      shapes = refl;
      empty = c.clear.ensures;
      memory = λ w. settled shapes sets old new c.from-own.result own ds (held_in planes) whole exists there c.index_mut.ensures.value c.requires.ready c.do_all_in_set.ensures.count each w
          (all_sourced shapes sets whole own from (held shapes sets own c.from-own.result from whole exists there c.index.ensures) planes w ds c.requires.ready c.hold_source.ensures.held);
    }
