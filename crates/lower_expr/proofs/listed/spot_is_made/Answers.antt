use Rattle.lower_expr.proofs.Lists.{left_index_made}
use Rattle.lower_expr.proofs.listed.spot_is_made.Goals as goal

pub returns : goal.returns
returns c = record { made = left_index_made _ _ _ _ _ _ _ _ _ _ c.requires.whole c.requires.list c.requires.made }
