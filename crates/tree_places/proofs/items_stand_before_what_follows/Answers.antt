use Rattle.tree_places.proofs.Ordered.{what_follows}
use Rattle.tree_places.proofs.items_stand_before_what_follows.Goals as goal

pub returns : goal.returns
returns c = what_follows
