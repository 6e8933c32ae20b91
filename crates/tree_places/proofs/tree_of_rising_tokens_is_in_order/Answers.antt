use Rattle.tree_places.proofs.Ordered.{tree_in_order}
use Rattle.tree_places.proofs.tree_of_rising_tokens_is_in_order.Goals as goal

pub returns : goal.returns
returns c = tree_in_order
