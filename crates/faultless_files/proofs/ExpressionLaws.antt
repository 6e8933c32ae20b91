-- The laws on expressions, in one: one type, and no fault.
use Rattle.unique_types.specs.Laws.{ConstantsHaveTypes, TypedExpressionsAreNotUntold, TypedExpressionsHaveNoFault, TypedValuesHaveNoFault, TypesAreUnique}
use Rattle.unique_types.proofs.Constants.{typed}
use Rattle.unique_types.proofs.Faultless.{faultless, faultless_value}
use Rattle.unique_types.proofs.Parts.{not_untold}
use Rattle.unique_types.proofs.Unique.{same}

pub record ExpressionLaws : Type 0 where
  pub unique : TypesAreUnique
  pub constants : ConstantsHaveTypes
  pub no_fault : TypedExpressionsHaveNoFault
  pub no_value_fault : TypedValuesHaveNoFault
  pub not_untold : TypedExpressionsAreNotUntold

pub laws : ExpressionLaws
laws = record {
  unique = λ program here e t u b c. same e;
  constants = λ program here e k is. let x = typed program here e is in (x.tree, x.types, x.type_is);
  no_fault = λ program here e t b h fault p stands. faultless stands h;
  no_value_fault = λ program here e t h fault p stands. faultless_value stands h;
  not_untold = λ program here e t b h untold. not_untold untold h;
}
