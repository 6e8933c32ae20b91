use Rattle.tree_places.proofs.Ordering.{one_order}
use Rattle.tree_places.proofs.places_stand_in_one_order.Goals as goal

pub returns : goal.returns
returns c = one_order
