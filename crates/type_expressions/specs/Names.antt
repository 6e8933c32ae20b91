-- What is answered for a name in an expression.
use Rattle.std.specs.Prelude.{◌≡◌, ℕ, Bool, true, is_some, List, Option, Some, None, Result, Ok, Err}
use Rattle.cstar_base.specs.declared.faults.Fault.TheVariants as F
use Rattle.cstar_base.specs.declared.operators.Place.{Place}
use Rattle.cstar_tree.specs.declared.syntax.Expr as E
use Rattle.cstar_tree.specs.declared.syntax.Name.{Name}
use Rattle.cstar_tree.specs.declared.typed.TExpr.{TExpr}
use Rattle.cstar_tree.specs.declared.typed.Variable.{Variable}
use Rattle.cstar_tree.specs.ExpressionFaults.{FaultAt}
use Rattle.cstar_tree.specs.ExpressionTypes.{Types}
use Rattle.cstar_tree.specs.Headers.{Program}
use Rattle.cstar_tree.specs.Scopes.{Binding, Here, Meaning, a_function, a_shape, a_variable, find, meaning}
use Rattle.type_scopes.specs.declared.faults.Untyped.{Untyped}
use Rattle.type_scopes.specs.declared.faults.Untyped.TheVariants as U
use Rattle.type_scopes.specs.declared.names.VariableType.{VariableType}
use Rattle.type_scopes.specs.Answers.{told_by}
use Rattle.type_scopes.specs.Bindings.{variable_type}
use Rattle.type_scopes.specs.Named.{TellsNoVariable}

-- the names at the place are those here
abbrev pub HasNames : List Binding → Here → Type 0
HasNames names here = (word : List ℕ) → meaning here word ≡ find names word

-- the variable that is named, an array or none
abbrev pub IsVariableMeant : Bool → Option Meaning → Variable × VariableType → Type 0
IsVariableMeant array m found = (m ≡ Some (a_variable found.0 (Some (variable_type found.1)))) × (is_some found.1.array ≡ array)

-- where an array is wanted, or a variable that is none
abbrev pub TellsOther : Bool → Option Meaning → Place → Untyped → Type 0
TellsOther array None p u = TellsNoVariable None p u
TellsOther array (Some (a_shape s)) p u = TellsNoVariable (Some (a_shape s)) p u
TellsOther array (Some (a_function f)) p u = TellsNoVariable (Some (a_function f)) p u
TellsOther array (Some (a_variable v None)) p u = TellsNoVariable (Some (a_variable v None)) p u
TellsOther array (Some (a_variable v (Some t))) p u = (is_some t.array ≡ array → ⊥) × (told_by u ≡ Some (F.ArrayUse, p))

-- the typed tree of a name, or why it has none: a fault that stands at it, or its faulty declaration
abbrev pub IsNamed : Program → Here → Name → Result TExpr Untyped → Type 0
IsNamed program here n (Ok t) = Types program here (E.Name n) t true
IsNamed program here n (Err (U.Fault standing)) = FaultAt program here (E.Name n) standing.fault standing.place
IsNamed program here n (Err U.Faulty) = (v : Variable) × (meaning here n.word ≡ Some (a_variable v None))
IsNamed program here n (Err U.Memory) = ⊥
