use Rattle.std.proofs.Common.{◌∙◌, ap, eqb, sym}
use Rattle.block_store.specs.Stored.{memory_in}
use Rattle.paris_code.specs.Memory.{BitMemory, field_number}
use Rattle.phase_meaning.proofs.RunBits.{run_number_one}
use Rattle.paris_phases.specs.Machines.{sets_of}
use Rattle.paris_phases.proofs.Waits.{idle}
use Rattle.paris_phases.proofs.fork.ForkPhasesPhases.bit.Goals as goal

pub returns : goal.returns
unfolding field_number
returns g c =
    let machine = c.args.self.now.machine in
    let m = memory_in machine.store c.args.self.now.winner in
    ap (λ n. eqb n 1) (c.read.ensures c.args.self.now.winner ∙ run_number_one (m.bit c.args.set c.args.position) c.args.index)
    ∙ ap (λ (n : BitMemory). eqb (n.bit c.args.set c.args.position c.args.index) 1) (sym (idle (sets_of machine) machine.batch.deferred.items m c.requires.settled))
