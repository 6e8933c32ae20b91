use Rattle.proper_code.proofs.LinkedControl.{links_keep}
use Rattle.proper_code.proofs.links_keep_ways.Goals as goal

pub returns : goal.returns
returns c = links_keep
