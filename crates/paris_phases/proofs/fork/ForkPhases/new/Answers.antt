use Rattle.cstar_base.specs.declared.operators.Winner.TheVariants as W
use Rattle.block_store.specs.Stored.{memory_in}
use Rattle.paris_code.specs.Memory.{fresh_memory}
use Rattle.paris_code.specs.Shapes.{shapes_of}
use Rattle.paris_phases.specs.Machines.{sets_of}
use Rattle.paris_phases.proofs.Waits.{settled_all}
use Rattle.paris_phases.proofs.fork.ForkPhases.new.Goals as goal

pub returns-clause-fresh : goal.returns-clause-fresh
returns-clause-fresh g c =
    let machine = c.in-Ok.machine in
    settled_all (shapes_of c.args.sound.now) (sets_of machine) machine.batch.deferred.items (memory_in machine.store W.High) (fresh_memory (shapes_of c.args.sound.now)) c.in-Ok.ensures.settled c.in-Ok.ensures.fresh
