use Rattle.std.proofs.Common.{ap, refl, ◌∙◌}
use Rattle.cstar_tree.specs.Typed.{type_of}
use Rattle.typed_nodes.proofs.Nodes.{assigned}
use Rattle.typed_nodes.proofs.assignments.assignment.Goals as goal

pub returns : goal.returns
returns c = assigned (c.ty-ty.ensures ∙ ap type_of c.deref.ensures) (c.ty.ensures ∙ ap type_of c.deref-2.ensures) c.value_elem.ensures c.in_ok-value.ensures refl
