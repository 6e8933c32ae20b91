use Rattle.fields_follow.proofs.parallel_code_means_source.Goals as goal
use Rattle.fields_follow.proofs.Programs.{means_source}

pub returns : goal.returns
returns c = means_source
