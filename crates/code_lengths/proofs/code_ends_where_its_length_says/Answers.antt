use Rattle.code_lengths.proofs.Agreeing.{places}
use Rattle.code_lengths.proofs.code_ends_where_its_length_says.Goals as goal

pub returns : goal.returns
returns c = places
