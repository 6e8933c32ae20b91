use Rattle.tree_places.proofs.TextPlaces.{text_rises}
use Rattle.tree_places.proofs.tokens_of_a_text_rise.Goals as goal

pub returns : goal.returns
returns c = text_rises
