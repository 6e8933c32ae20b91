-- A constant expression has no fault as the length of an array or as an extent of a shape.
use Rattle.std.proofs.Common.{◌≡◌, ℤ, true, Option, Some, None, refl, sym, ◌∙◌}
use Rattle.std.proofs.lemmas.Option.{none-some}
use Rattle.cstar_base.specs.declared.faults.Fault.{Fault}
use Rattle.cstar_base.specs.declared.operators.Place.{Place}
use Rattle.cstar_tree.specs.declared.syntax.Expr.{Expr}
use Rattle.cstar_tree.specs.declared.typed.TExpr.{TExpr}
use Rattle.cstar_tree.specs.Constants.{Constant, constant, constant_number, number_meant}
use Rattle.cstar_tree.specs.ExpressionTypes.{Types}
use Rattle.cstar_tree.specs.Headers.{Program}
use Rattle.cstar_tree.specs.Scopes.{Here, part}
use Rattle.cstar_tree.specs.StatementFaults.{LengthFaultIn}
use Rattle.cstar_tree.specs.StatementFaults as W
use Rattle.unique_types.proofs.Constants.{in_part}
use Rattle.faultless_files.proofs.ExpressionLaws.{laws}

-- what has a number is a constant by its form
pub form_of : (k : Option Constant) (n : ℤ) → number_meant k ≡ Some n → (c : Constant) × (k ≡ Some c)
form_of None n is = elim (none-some n is) [ ]
form_of (Some c) n is = (c, refl)

module _ (program : Program) where
  pub constant_typed : (here : Here) (e : Expr) (n : ℤ) → constant_number here e ≡ Some n → (t : TExpr) × Types program (part here) e t true
  constant_typed here e n is =
      let c = form_of (constant here e) n is in
      let typed = laws.constants program (part here) e c.0 (in_part here e ∙ c.1) in
      (typed.0, typed.1)

  pub sound_length : (here : Here) (e : Expr) (n : ℤ) → constant_number here e ≡ Some n → {fault : Fault} {p : Place} → LengthFaultIn program here e fault p → ⊥
  sound_length here e n is (W.LengthFaultIn.within {fault = fault} {p = p} f) = let typed = constant_typed here e n is in laws.no_fault program (part here) e typed.0 _ typed.1 fault p f
  sound_length here e n is (W.LengthFaultIn.no_constant typed none) = elim (none-some n (sym none ∙ is)) [ ]
  sound_length here e n is (W.LengthFaultIn.untold f) = let typed = constant_typed here e n is in laws.not_untold program (part here) e typed.0 _ typed.1 f
