use Rattle.open_names.proofs.OpenExpressions.{named}
use Rattle.open_names.proofs.typed_expression_names_open_variables.Goals as goal

pub returns : goal.returns
returns c program blocks here e t has_value knows is = named blocks program is knows
