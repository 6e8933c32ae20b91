use Rattle.plain_listings.proofs.Determined.{determines}
use Rattle.plain_listings.proofs.listing_determines_image.Goals as goal

pub returns : goal.returns
returns c = determines
