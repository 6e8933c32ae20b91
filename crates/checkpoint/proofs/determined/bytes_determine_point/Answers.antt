use Rattle.checkpoint.proofs.Same.{bytes_determine}
use Rattle.checkpoint.proofs.determined.bytes_determine_point.Goals as goal

pub returns : goal.returns
returns c = bytes_determine
