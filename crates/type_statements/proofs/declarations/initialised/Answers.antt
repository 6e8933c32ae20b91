use Rattle.std.proofs.Common.{subst}
use Rattle.cstar_tree.specs.Conversions.{IsFitted}
use Rattle.cstar_tree.specs.declared.typed.ValueType.{ValueType}
use Rattle.type_statements.proofs.declarations.initialised.Goals as goal

pub returns : goal.returns
returns c = record {
  value = c.in-Some.value;
  is_typed = c.in-Some.is;
  at_hand = c.in_ok-holds.ensures;
  is_scalar = rw c.deref.ensures at c.in_ok-scalar_if.ensures;
  is_fitted = subst (λ (t : ValueType). IsFitted c.in-Some.value.value t c.in_ok-fitted.field-0.value) c.value.ensures c.in_ok-fitted.ensures;
}
