use Rattle.program_laws.proofs.MetInstances.{met_are_the_programs}
use Rattle.program_laws.proofs.met_instances_are_the_programs.Goals as goal

pub returns : goal.returns
returns c = met_are_the_programs
