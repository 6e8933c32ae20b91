use Rattle.proper_code.proofs.PlacedControl.{compiled_keep}
use Rattle.proper_code.proofs.compiled_images_keep_ways.Goals as goal

pub returns : goal.returns
returns c = compiled_keep
