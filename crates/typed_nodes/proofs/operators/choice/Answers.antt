use Rattle.std.proofs.Common.{ap, refl, ◌∙◌}
use Rattle.cstar_tree.specs.Typed.{type_of}
use Rattle.typed_nodes.proofs.Nodes.{chosen}
use Rattle.typed_nodes.proofs.operators.choice.Goals as goal

pub returns : goal.returns
returns c = chosen (c.ty.ensures ∙ ap type_of c.deref-3.ensures) (c.ty-a.ensures ∙ ap type_of c.deref.ensures) (c.ty-b.ensures ∙ ap type_of c.deref-2.ensures) c.common.ensures c.either.ensures c.either-2.ensures c.in_ok-then.ensures c.in_ok-otherwise.ensures refl
