use Rattle.code_lengths.proofs.UnitLengths.{units}
use Rattle.code_lengths.proofs.units_are_as_long_as_described.Goals as goal

pub returns : goal.returns
returns c = units
