use Rattle.accepted_code.proofs.scalar_image_means_its_text.Goals as goal
use Rattle.accepted_code.proofs.EveryUnit.{scalar_means}

pub returns : goal.returns
returns c = scalar_means
