use Rattle.lower_expr.proofs.Lists.{call_made}
use Rattle.lower_expr.proofs.listed.call_is_made.Goals as goal

pub returns : goal.returns
returns c = record { made = λ dest begun fresh. call_made _ _ _ _ _ _ _ _ dest _ begun c.requires.whole c.requires.list fresh c.requires.made }
