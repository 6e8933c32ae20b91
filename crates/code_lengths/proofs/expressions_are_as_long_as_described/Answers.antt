use Rattle.code_lengths.proofs.Agreeing.{expressions}
use Rattle.code_lengths.proofs.expressions_are_as_long_as_described.Goals as goal

pub returns : goal.returns
returns c = expressions
