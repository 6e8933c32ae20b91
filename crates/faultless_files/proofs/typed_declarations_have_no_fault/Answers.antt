use Rattle.faultless_files.proofs.Declarations.{declarations_sound}
use Rattle.faultless_files.proofs.typed_declarations_have_no_fault.Goals as goal

pub returns : goal.returns
returns c = declarations_sound
