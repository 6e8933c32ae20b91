use Rattle.code_follows.proofs.code_means_source.Goals as goal
use Rattle.code_follows.proofs.Programs.{means_source}

pub returns : goal.returns
returns c = means_source
