use Rattle.paris_code.specs.Shapes.{shapes_of}
use Rattle.paris_phases.specs.Machines.{memory_of}
use Rattle.cstar_top.proofs.Courses.{over_none, over_sets}
use Rattle.cstar_top.proofs.run.phases_from.Goals as goal

pub returns-in-Ok-clause-memory : goal.returns-in-Ok-clause-memory
returns-in-Ok-clause-memory g c =
    over_sets c.with_sets.result (λ p. memory_of p.machine) (λ p. p.winner) (shapes_of c.args.sound.now) c.in-Ok.sets.items c.args.bits c.in-Some.bits c.into_bytes.result.items c.in-Some.is c.into_bytes.ensures c.in-Ok.ensures.memory c.with_sets.ensures.memory

pub returns-in-None-clause-memory : goal.returns-in-None-clause-memory
returns-in-None-clause-memory g c =
    over_none c.new.result (λ p. memory_of p.machine p.winner) (shapes_of c.args.sound.now) c.args.bits c.in-None.is c.new.ensures.fresh
