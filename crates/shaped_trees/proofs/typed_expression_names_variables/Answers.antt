use Rattle.shaped_trees.proofs.NamedVariables.{named}
use Rattle.shaped_trees.proofs.typed_expression_names_variables.Goals as goal

pub returns : goal.returns
returns c program typed instance here e t has_value knows is = named typed instance here.locals program is knows
