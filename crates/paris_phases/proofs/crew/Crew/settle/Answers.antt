use Rattle.std.proofs.lemmas.Grind.{merely}
use Rattle.block_store.specs.Stored.{memory_in, shapes_in}
use Rattle.paris_phases.specs.Machines.{memory_of, sets_of}
use Rattle.paris_phases.proofs.Waits.{none_ready, settled_all}
use Rattle.paris_phases.proofs.crew.Crew.settle.Goals as goal

pub invariant_of-machine : goal.invariant_of-machine
invariant_of-machine g c =
    let done = c.settle.ensures in
    record { whole = done.whole; room = done.room; waiting = merely (none_ready (shapes_in c.settle.new.store) c.settle.new.batch.set c.settle.new.batch.deferred.items done.empty) }

pub returns : goal.returns
returns g c =
    let done = c.settle.ensures in
    record {
      settled = done.empty;
      ready = none_ready (shapes_in c.settle.new.store) c.settle.new.batch.set c.settle.new.batch.deferred.items done.empty;
      shapes = done.shapes;
      memory = λ winner. settled_all (sets_of c.args.machine.now) (shapes_in c.settle.new.store) c.settle.new.batch.deferred.items (memory_in c.settle.new.store winner) (memory_of c.args.machine.now winner) done.empty (done.memory winner);
    }
