use Rattle.turn_laws.proofs.more_turns_print_on.Goals as goal
use Rattle.turn_laws.proofs.Courses.{prints_on}

pub returns : goal.returns
returns c = prints_on
