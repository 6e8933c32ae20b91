-- What typing an expression can come to, and what is asked of the place where it stands.
use Rattle.std.specs.Prelude.{◌≡◌, ◌<◌, ◌^◌, ℕ, Bool, List, length, slice_get, Some, None, Box, Vec}
use Rattle.std.specs.List.{Contains}
use Rattle.std.specs.declared.alloc.Global.{Global}
use Rattle.cstar_base.specs.declared.faults.Fault.{Fault}
use Rattle.cstar_base.specs.declared.operators.Place.{Place}
use Rattle.cstar_tree.specs.declared.syntax.Expr.{Expr}
use Rattle.cstar_tree.specs.declared.syntax.Expr as E
use Rattle.cstar_tree.specs.declared.syntax.Name.{Name}
use Rattle.cstar_tree.specs.declared.typed.TExpr.{TExpr}
use Rattle.cstar_tree.specs.declared.typed.Variable.{Variable}
use Rattle.cstar_tree.specs.Calls.{Call, calls_in}
use Rattle.cstar_tree.specs.ExpressionFaults.{FaultIn, IsPart, Uses, parameters_of, variable}
use Rattle.cstar_tree.specs.ExpressionTypes.{Types, callee}
use Rattle.cstar_tree.specs.Headers.{Placed, Program, returns_of, unknown}
use Rattle.cstar_tree.specs.Scopes.{Here, VariableType, a_function, a_shape, a_variable, extents_of, meaning}

-- the type of a parameter of a function has a fault, or within a function that of the result
pub data HasFaultyHeader (here : Here) (placed : Placed) (f : ℕ) : Type 0 where
  parameter : (which : ℕ) → slice_get (parameters_of here placed f) which ≡ Some None → HasFaultyHeader here placed f
  result : {around : ℕ} → here.around ≡ Some around → returns_of (callee here placed f) placed.function.result ≡ unknown → HasFaultyHeader here placed f

-- an expression rests on a declaration that has a fault of its own
pub data Rests (program : Program) : Here → Expr → Type 0 where
  on_variable : {here : Here} {e : Expr} {n : Name} {v : Variable} → Uses e variable n → meaning here n.word ≡ Some (a_variable v None) → Rests program here e
  on_function : {here : Here} {n : Name} {f : ℕ} {placed : Placed} (arguments : Vec Expr Global) → meaning here n.word ≡ Some (a_function f) → slice_get program.functions f ≡ Some placed → HasFaultyHeader here placed f → Rests program here (E.Call n arguments)
  in_part : {here there : Here} {e x : Expr} → IsPart here e there x → Rests program there x → Rests program here e
  in_brackets : {here : Here} {p : Place} (inner : Box Expr Global) → Rests program here inner.value → Rests program here (E.Brackets p inner)

-- an expression has a type, or a fault stands in it, or it rests on a faulty declaration
pub data Outcome (program : Program) (here : Here) (e : Expr) : Type 0 where
  typed : {t : TExpr} {has_value : Bool} → Types program here e t has_value → Outcome program here e
  faulty : {fault : Fault} {p : Place} → FaultIn program here e fault p → Outcome program here e
  rests : Rests program here e → Outcome program here e

abbrev pub HasType : Program → Here → Expr → Type 0
HasType program here e = (t : TExpr) × (has_value : Bool) × Types program here e t has_value

-- ---- what is asked

-- a shape of this number is there
abbrev pub IsShape : Here → ℕ → Type 0
IsShape here shape = (extents : List ℕ) × (extents_of here shape ≡ Some extents)

-- What stands under a name at a place is there: the function in the program, and each shape that is
-- named, that a variable is of or that is the current one.
pub record HasItsNames (program : Program) (here : Here) : Type 0 where
  pub functions : (word : List ℕ) (f : ℕ) → meaning here word ≡ Some (a_function f) → (placed : Placed) × (slice_get program.functions f ≡ Some placed)
  pub shapes : (word : List ℕ) (shape : ℕ) → meaning here word ≡ Some (a_shape shape) → IsShape here shape
  pub variables : (word : List ℕ) (v : Variable) (ty : VariableType) (shape : ℕ) → meaning here word ≡ Some (a_variable v (Some ty)) → ty.value.shape ≡ Some shape → IsShape here shape
  pub current : (shape : ℕ) → here.current ≡ Some shape → IsShape here shape

-- an expression stands in another one, or is that one
pub data StandsIn : Expr → Expr → Type 0 where
  itself : {e : Expr} → StandsIn e e
  in_part : {here there : Here} {e x y : Expr} → IsPart here e there x → StandsIn x y → StandsIn e y
  in_brackets : {y : Expr} {p : Place} (inner : Box Expr Global) → StandsIn inner.value y → StandsIn (E.Brackets p inner) y

-- Each call of the expression within a function is one of an instance of the program, and each text of
-- a `printf` in it has no more bytes than a list has items.
pub record IsOfProgram (program : Program) (here : Here) (e : Expr) : Type 0 where
  pub instances : (c : Call) (around : ℕ) → Contains (calls_in here e) c → here.around ≡ Some around → (instance : ℕ) × (slice_get program.instances instance ≡ Some (record { function = c.function; current = c.current }))
  pub texts : (p : Place) (text : List ℕ) (arguments : Vec Expr Global) → StandsIn e (E.Printf p text arguments) → length text < 2 ^ 63

-- no name at a place stands for a variable whose declaration has a fault
abbrev pub HasTypedVariables : Here → Type 0
HasTypedVariables here = (word : List ℕ) (v : Variable) → meaning here word ≡ Some (a_variable v None) → ⊥
