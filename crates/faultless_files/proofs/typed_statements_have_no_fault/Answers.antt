use Rattle.faultless_files.proofs.Statements.{statements_sound}
use Rattle.faultless_files.proofs.typed_statements_have_no_fault.Goals as goal

pub returns : goal.returns
returns c = statements_sound
