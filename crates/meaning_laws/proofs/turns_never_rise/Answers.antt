use Rattle.meaning_laws.proofs.turns_never_rise.Goals as goal
use Rattle.meaning_laws.proofs.Programs.{turns_fall}

pub returns : goal.returns
returns c = turns_fall
