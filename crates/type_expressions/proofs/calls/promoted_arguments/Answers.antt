use Rattle.std.proofs.Common.{ap, ◌∙◌}
use Rattle.cstar_tree.specs.Conversions.{promoted}
use Rattle.cstar_tree.specs.Conversions as C
use Rattle.cstar_tree.specs.Typed.{type_of}
use Rattle.cstar_tree.specs.declared.typed.ValueType.{ValueType}
use Rattle.type_expressions.proofs.Printed.{push_promoted}
use Rattle.type_expressions.proofs.calls.promoted_arguments.Goals as goal

pub loop-argument-init : goal.loop-argument-init
loop-argument-init c = rw c.new-values.ensures.items C.none

pub loop-argument-preserved : goal.loop-argument-preserved
loop-argument-preserved c =
    let elem = c.promoted-elem.ensures ∙ ap (λ (ty : ValueType). promoted ty.elem) (c.ty.ensures ∙ ap type_of c.deref.ensures) in
    push_promoted c.loop-argument.yielded c.in-Some.argument c.loop-argument.invariant elem c.in_ok-converted.ensures c.into_inner.ensures c.in_ok-push.ensures.items
