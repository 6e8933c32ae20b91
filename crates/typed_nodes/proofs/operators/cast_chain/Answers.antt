use Rattle.std.proofs.Common.{ap, ◌∙◌}
use Rattle.cstar_tree.specs.Typed.{type_of}
use Rattle.typed_nodes.proofs.Nodes.{cast}
use Rattle.typed_nodes.proofs.operators.cast_chain.Goals as goal

pub returns : goal.returns
returns c = cast (c.ty.ensures ∙ ap type_of c.deref.ensures) c.cast_elem-elem.ensures c.in_ok-elems.ensures
