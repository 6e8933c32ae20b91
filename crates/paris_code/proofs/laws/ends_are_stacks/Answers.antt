use Rattle.paris_code.proofs.Stacks.{ends_are_stacks}
use Rattle.paris_code.proofs.laws.ends_are_stacks.Goals as goal

pub returns : goal.returns
returns c = ends_are_stacks
