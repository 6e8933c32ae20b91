use Rattle.lower_expr.proofs.Lists.{printf_made}
use Rattle.lower_expr.proofs.listed.print_is_made.Goals as goal

pub returns : goal.returns
returns c = record { made = printf_made _ _ _ _ _ _ _ _ _ _ c.requires.whole c.requires.text c.requires.list c.requires.made }
