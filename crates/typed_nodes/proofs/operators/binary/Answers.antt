use Rattle.std.proofs.Common.{ap, refl, ◌∙◌}
use Rattle.std.proofs.lemmas.Result.{IfOk-weaker}
use Rattle.cstar_tree.specs.Typed.{type_of}
use Rattle.typed_nodes.specs.Operators as O
use Rattle.typed_nodes.proofs.Nodes.{and_node, or_node}
use Rattle.typed_nodes.proofs.operators.binary.Goals as goal

pub returns-in-Number : goal.returns-in-Number
returns-in-Number c = rw c.in-Number.is (IfOk-weaker c.numeric.result _ _ (λ t h. O.numeric h) c.numeric.ensures)

pub returns-in_ok-right-in-LogicalOr : goal.returns-in_ok-right-in-LogicalOr
returns-in_ok-right-in-LogicalOr c =
    let node = or_node c.args.right (c.ty.ensures ∙ ap type_of c.deref.ensures) c.in_ok-right-in-LogicalOr.ensures (c.ty-in-LogicalOr.ensures ∙ ap type_of c.deref-in-LogicalOr.ensures) c.truth-ty.ensures refl in
    rw c.in-LogicalOr.is (O.logical_or _ node.0 node.1)

pub returns-in_ok-right-in-LogicalAnd : goal.returns-in_ok-right-in-LogicalAnd
returns-in_ok-right-in-LogicalAnd c =
    let node = and_node c.args.right (c.ty-in-LogicalAnd.ensures ∙ ap type_of c.deref-in-LogicalAnd.ensures) c.in_ok-right-in-LogicalAnd.ensures (c.ty-in-LogicalAnd-2.ensures ∙ ap type_of c.deref-in-LogicalAnd-2.ensures) c.truth-ty-in-LogicalAnd.ensures refl in
    rw c.in-LogicalAnd.is (O.logical_and _ node.0 node.1)
