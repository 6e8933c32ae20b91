-- The laws: the rules give an expression one type, and no fault stands in an expression that has one.
use Rattle.std.specs.Prelude.{◌≡◌, ℕ, Bool, true, List, Some}
use Rattle.std.specs.List.{AllZip}
use Rattle.cstar_base.specs.declared.faults.Fault.{Fault}
use Rattle.cstar_base.specs.declared.operators.Place.{Place}
use Rattle.cstar_tree.specs.declared.syntax.Expr.{Expr}
use Rattle.cstar_tree.specs.declared.syntax.Expr as E
use Rattle.cstar_tree.specs.declared.syntax.Name.{Name}
use Rattle.cstar_tree.specs.declared.typed.TExpr.{TExpr}
use Rattle.cstar_tree.specs.Constants.{Constant, constant}
use Rattle.cstar_tree.specs.ExpressionFaults.{FaultAt, FaultIn, IsUntold, ValueFaultIn}
use Rattle.cstar_tree.specs.ExpressionTypes.{Types, TypesEach, TypesIndexes}
use Rattle.cstar_tree.specs.Conversions.{scalar}
use Rattle.cstar_tree.specs.Headers.{Program}
use Rattle.cstar_tree.specs.Scopes.{Here}
use Rattle.cstar_tree.specs.Typed.{type_of}
use Rattle.unique_types.specs.Alike.{IsAlike}

-- ---- one type

abbrev pub TypesAreUnique : Type 0
TypesAreUnique =
    (program : Program) (here : Here) (e : Expr) (t u : TExpr) (b c : Bool) → Types program here e t b → Types program here e u c → IsAlike t u × (b ≡ c)

abbrev pub TypesOfListsAreUnique : Type 0
TypesOfListsAreUnique =
    (program : Program) (here : Here) (es : List Expr) (ts us : List TExpr) → TypesEach program here es ts → TypesEach program here es us → AllZip IsAlike ts us

abbrev pub TypesOfIndexesAreUnique : Type 0
TypesOfIndexesAreUnique =
    (program : Program) (here : Here) (n : Name) (axis : ℕ) (es : List Expr) (ts us : List TExpr) →
    TypesIndexes program here n axis es ts → TypesIndexes program here n axis es us → AllZip IsAlike ts us

-- what is constant by its form has a scalar type, and a value
abbrev pub ConstantsHaveTypes : Type 0
ConstantsHaveTypes =
    (program : Program) (here : Here) (e : Expr) (k : Constant) → constant here e ≡ Some k → (t : TExpr) × Types program here e t true × (type_of t ≡ scalar k.elem)

-- ---- no fault

abbrev pub TypedExpressionsHaveNoFault : Type 0
TypedExpressionsHaveNoFault =
    (program : Program) (here : Here) (e : Expr) (t : TExpr) (b : Bool) → Types program here e t b → (fault : Fault) (p : Place) → FaultIn program here e fault p → ⊥

abbrev pub TypedValuesHaveNoFault : Type 0
TypedValuesHaveNoFault =
    (program : Program) (here : Here) (e : Expr) (t : TExpr) → Types program here e t true → (fault : Fault) (p : Place) → ValueFaultIn program here e fault p → ⊥

-- an expression that has a type is not told to be no constant, where it stands outside all functions
abbrev pub TypedExpressionsAreNotUntold : Type 0
TypedExpressionsAreNotUntold =
    (program : Program) (here : Here) (e : Expr) (t : TExpr) (b : Bool) → Types program here e t b → IsUntold program here e → ⊥

-- At most one fault stands at a node, but at a call, a scan, an enumerate, a `dimof` and a `printf`: at
-- these one can stand beside another.
abbrev pub HasOneAtMost : Expr → Type 0
HasOneAtMost (E.Call' n _ arguments) = ⊥
HasOneAtMost (E.DimOf' p shape _ axis) = ⊥
HasOneAtMost (E.Scan' p _ source _ axis _ _ _ bit _) = ⊥
HasOneAtMost (E.Enumerate' p _ axis _ _ _ bit) = ⊥
HasOneAtMost (E.Printf' p text _ arguments) = ⊥
HasOneAtMost _ = Unit {0}

abbrev pub FaultsAtANodeAreOne : Type 0
FaultsAtANodeAreOne =
    (program : Program) (here : Here) (e : Expr) (f g : Fault) (p q : Place) → HasOneAtMost e → FaultAt program here e f p → FaultAt program here e g q → (f ≡ g) × (p ≡ q)
