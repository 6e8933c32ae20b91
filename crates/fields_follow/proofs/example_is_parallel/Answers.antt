use Rattle.fields_follow.proofs.example_is_parallel.Goals as goal
use Rattle.fields_follow.proofs.Example.{is_parallel}

pub returns : goal.returns
returns c = is_parallel
