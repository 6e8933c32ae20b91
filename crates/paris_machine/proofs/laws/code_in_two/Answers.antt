use Rattle.paris_machine.proofs.Cut.{two_codes}
use Rattle.paris_machine.proofs.laws.code_in_two.Goals as goal

pub returns : goal.returns
returns c = two_codes
