use Rattle.std.proofs.Common.{List, map, sym, ◌∙◌, subst}
use Rattle.std.proofs.lemmas.Grind.{merely}
use Rattle.block_store.specs.declared.set.SetPlan.{SetPlan}
use Rattle.block_store.specs.Stored.{memory_in, shape_of_plan, shapes_in}
use Rattle.instruction_runs.specs.Waiting.{AreReady, IsDeferral, IsReady}
use Rattle.paris_phases.specs.Machines.{memory_of, sets_of}
use Rattle.paris_phases.proofs.Waits.{done_ahead, nothing_fits, waits_more}
use Rattle.paris_phases.proofs.crew.Crew.apply.Goals as goal

pub invariant_of-machine : goal.invariant_of-machine
invariant_of-machine g c =
    let settled = c.make_room.new.machine in
    let is : IsDeferral (sets_of c.args.machine.now) c.args.instr.now c.args.args.now c.in-Some.deferred =
    subst (λ (ps : List SetPlan). IsDeferral (map shape_of_plan ps) c.args.instr.now c.args.args.now c.in-Some.deferred) c.as_slice.ensures.value c.in-Some.ensures in
    record {
      whole = settled.whole;
      room = settled.room;
      waiting = merely (c.push.ensures.ready (sets_of settled) c.make_room.ensures.ready (subst (λ shapes. IsReady shapes c.in-Some.deferred) (sym c.make_room.ensures.shapes) is.ready));
    }

pub returns-in-Some : goal.returns-in-Some
returns-in-Some g c =
    let old = c.args.machine.now in
    let settled = c.make_room.new.machine in
    let w = c.args.winner in
    let is : IsDeferral (sets_of old) c.args.instr.now c.args.args.now c.in-Some.deferred =
    subst (λ (ps : List SetPlan). IsDeferral (map shape_of_plan ps) c.args.instr.now c.args.args.now c.in-Some.deferred) c.as_slice.ensures.value c.in-Some.ensures in
    record {
      ready = c.push.ensures.ready (sets_of settled) c.make_room.ensures.ready (subst (λ shapes. IsReady shapes c.in-Some.deferred) (sym c.make_room.ensures.shapes) is.ready);
      shapes = c.make_room.ensures.shapes;
      fits = nothing_fits (sets_of old) c.args.instr.now c.args.args.now (memory_of old w) c.requires.can is.waits;
      meaning = waits_more (sets_of old) (sets_of settled) c.args.instr.now c.args.args.now c.in-Some.deferred (memory_of settled w) (memory_of old w) _
          c.make_room.ensures.shapes old.whole.grids c.requires.can is (c.make_room.ensures.memory w) (c.push.ensures.memory (sets_of settled) (memory_in settled.store w));
    }

pub returns-in-None : goal.returns-in-None
returns-in-None g c =
    let old = c.args.machine.now in
    let way = c.make_way.new.machine in
    let w = c.args.winner in
    let did = c.do_now.ensures in
    record {
      ready = subst (λ shapes. AreReady shapes way.batch.set way.batch.deferred.items) (sym did.shapes) c.make_way.ensures.ready;
      shapes = did.shapes ∙ c.make_way.ensures.shapes;
      fits = did.fits;
      meaning = done_ahead (sets_of old) (sets_of way) (shapes_in c.do_now.new.store) way.batch.set c.args.instr.now c.args.args.now way.batch.deferred.items (memory_of old w) (memory_in way.store w) (memory_in c.do_now.new.store w) c.do_now.result
          c.make_way.ensures.shapes (did.shapes ∙ c.make_way.ensures.shapes) c.make_way.ensures.ready c.make_way.ensures.passes old.whole.grids c.requires.can (c.make_way.ensures.memory w) did.meaning;
    }
