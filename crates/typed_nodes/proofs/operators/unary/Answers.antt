use Rattle.std.proofs.Common.{ap, refl, ◌∙◌}
use Rattle.cstar_tree.specs.Typed.{type_of}
use Rattle.typed_nodes.proofs.Nodes.{as_unary, negated, signed}
use Rattle.typed_nodes.proofs.operators.unary.Goals as goal

pub returns-in-Not : goal.returns-in-Not
returns-in-Not c = negated c.args.operand c.in-Not.is (c.ty.ensures ∙ ap type_of c.deref.ensures) c.truth-ty.ensures

pub returns-in_ok-operand-in-Plus : goal.returns-in_ok-operand-in-Plus
returns-in_ok-operand-in-Plus c =
    as_unary _ c.args.operand c.in-Plus.is (signed (c.ty-in-Plus.ensures ∙ ap type_of c.deref-in-Plus.ensures) c.promoted-elem.ensures c.in_ok-operand-in-Plus.ensures (c.ty-ty.ensures ∙ ap type_of c.deref-in-Plus-2.ensures) refl)
