use Rattle.faultless_files.proofs.Statements.{lists_sound}
use Rattle.faultless_files.proofs.typed_statement_lists_have_no_fault.Goals as goal

pub returns : goal.returns
returns c = lists_sound
