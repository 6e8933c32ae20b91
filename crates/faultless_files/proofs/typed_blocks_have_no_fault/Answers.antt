use Rattle.faultless_files.proofs.Statements.{blocks_sound}
use Rattle.faultless_files.proofs.typed_blocks_have_no_fault.Goals as goal

pub returns : goal.returns
returns c = blocks_sound
