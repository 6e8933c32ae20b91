use Rattle.meaning_laws.proofs.more_turns_print_on.Goals as goal
use Rattle.meaning_laws.proofs.Programs.{more_turns}

pub returns : goal.returns
returns c = more_turns
