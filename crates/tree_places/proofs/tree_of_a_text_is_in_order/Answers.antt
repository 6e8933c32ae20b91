use Rattle.tree_places.proofs.Ordered.{tree_in_order}
use Rattle.tree_places.proofs.TextPlaces.{text_rises}
use Rattle.tree_places.proofs.tree_of_a_text_is_in_order.Goals as goal

pub returns : goal.returns
returns c = λ bytes tokens tree text end is. tree_in_order tokens tree (text_rises bytes tokens text end) is
