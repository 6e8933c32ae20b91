-- What the code calls a target, as the definitions have it.
use Rattle.cstar_tree.specs.Operations.{Target, many, one}
use Rattle.typed_nodes.specs.declared.assignments.Target.TheVariants as T
use Rattle.typed_nodes.specs.declared.assignments.Target as Code

abbrev pub meant : Code.Target → Target
meant T.Variable = one
meant (T.Send place) = many place
