use Rattle.listed_images.proofs.SameCode.{same_meaning}
use Rattle.listed_images.proofs.listing_determines_meaning.Goals as goal

pub returns : goal.returns
returns c one other = same_meaning one other
