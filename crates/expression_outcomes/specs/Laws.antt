-- The laws: an expression has a type, or a fault stands in it, or it rests on a faulty declaration.
use Rattle.std.specs.Prelude.{◌≡◌, ◌⊎◌, None}
use Rattle.cstar_base.specs.declared.faults.Fault.{Fault}
use Rattle.cstar_base.specs.declared.operators.Place.{Place}
use Rattle.cstar_tree.specs.declared.syntax.Expr.{Expr}
use Rattle.cstar_tree.specs.ExpressionFaults.{FaultIn, IsUntold}
use Rattle.cstar_tree.specs.Headers.{Program}
use Rattle.cstar_tree.specs.Scopes.{Here}
use Rattle.expression_outcomes.specs.Outcomes.{HasItsNames, HasType, HasTypedVariables, IsOfProgram, Outcome}

abbrev pub ExpressionsAreTypedOrFaulty : Type 0
ExpressionsAreTypedOrFaulty = (program : Program) (here : Here) (e : Expr) → HasItsNames program here → IsOfProgram program here e → Outcome program here e

-- outside all functions, where no variable has a faulty declaration, an expression without a fault has
-- a type or is told to be no constant
abbrev pub FaultlessConstantsAreTypedOrUntold : Type 0
FaultlessConstantsAreTypedOrUntold =
    (program : Program) (here : Here) (e : Expr) → HasItsNames program here → IsOfProgram program here e → here.around ≡ None → HasTypedVariables here →
    ((fault : Fault) (p : Place) → FaultIn program here e fault p → ⊥) → HasType program here e ⊎ IsUntold program here e
