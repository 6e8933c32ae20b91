use Rattle.code_lengths.proofs.UnitLengths.{programs}
use Rattle.code_lengths.proofs.programs_have_code.Goals as goal

pub returns : goal.returns
returns c = programs
