use Rattle.std.proofs.Common.{◌∙◌, ap, sym}
use Rattle.block_store.specs.Stored.{memory_in}
use Rattle.paris_code.specs.Memory.{BitMemory, field_number}
use Rattle.paris_phases.specs.Machines.{sets_of}
use Rattle.paris_phases.proofs.Waits.{idle}
use Rattle.paris_phases.proofs.fork.ForkPhasesPhases.read.Goals as goal

pub returns : goal.returns
returns g c =
    let machine = c.args.self.now.machine in
    c.read.ensures c.args.self.now.winner
    ∙ ap (λ (m : BitMemory). field_number m c.args.field c.args.position) (sym (idle (sets_of machine) machine.batch.deferred.items (memory_in machine.store c.args.self.now.winner) c.requires.settled))
