use Rattle.code_lengths.proofs.StatementLengths.{statements}
use Rattle.code_lengths.proofs.statements_are_as_long_as_described.Goals as goal

pub returns : goal.returns
returns c = statements
