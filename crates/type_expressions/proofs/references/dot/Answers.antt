use Rattle.std.proofs.Common.{refl, ◌∙◌}
use Rattle.cstar_tree.specs.Conversions.{int}
use Rattle.cstar_tree.specs.ExpressionFaults as F
use Rattle.typed_nodes.proofs.Elems.{same_parts}
use Rattle.type_expressions.proofs.AtSites.{dot_types}
use Rattle.type_expressions.proofs.OnOperands.{tells}
use Rattle.type_expressions.proofs.references.dot.Goals as goal

pub returns-in_default : goal.returns-in_default
returns-in_default c program here i = tells c.fault.result c.fault.ensures (F.dot_alone (i.dot ∙ c.in_default.is))

pub returns : goal.returns
returns c program here i = dot_types _ (same_parts _ int refl refl) i.current (i.dot ∙ c.in-Some.is)
