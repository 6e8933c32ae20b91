use Rattle.open_names.proofs.OpenStatements.{statement_names}
use Rattle.open_names.proofs.typed_statement_names_open_variables.Goals as goal

pub returns : goal.returns
returns c program gives blocks here s t knows is = statement_names program gives blocks is knows
