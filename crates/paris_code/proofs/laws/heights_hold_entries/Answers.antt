use Rattle.paris_code.proofs.Stacks.{heights_hold}
use Rattle.paris_code.proofs.laws.heights_hold_entries.Goals as goal

pub returns : goal.returns
returns c = heights_hold
