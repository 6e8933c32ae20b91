use Rattle.shaped_trees.proofs.NamedStatements.{statement_names}
use Rattle.shaped_trees.proofs.typed_statement_names_variables.Goals as goal

pub returns : goal.returns
returns c program typed instance gives here s t knows shapes stand is = statement_names typed instance program gives is (record { variables = knows; shapes = shapes }) stand
