-- What is named in a file, and what is answered where a name does not do.
use Rattle.std.specs.Prelude.{◌≡◌, ℕ, List, Option, Some, None, Result, Ok, Err}
use Rattle.cstar_base.specs.declared.faults.Fault.{Fault}
use Rattle.cstar_base.specs.declared.faults.Fault.TheVariants as F
use Rattle.cstar_base.specs.declared.operators.Place.{Place}
use Rattle.cstar_tree.specs.declared.syntax.Name.{Name}
use Rattle.cstar_tree.specs.declared.syntax.ShapeRef.{ShapeRef}
use Rattle.cstar_tree.specs.declared.syntax.ShapeRef.TheVariants as R
use Rattle.cstar_tree.specs.declared.syntax.TypeName.{TypeName}
use Rattle.cstar_tree.specs.declared.typed.ValueType.{ValueType}
use Rattle.cstar_tree.specs.declared.typed.Variable.{Variable}
use Rattle.type_scopes.specs.declared.faults.Untyped.{Untyped}
use Rattle.type_scopes.specs.declared.faults.Untyped.TheVariants as U
use Rattle.type_scopes.specs.declared.names.VariableType as Names
use Rattle.type_scopes.specs.Answers.{told_by}
use Rattle.type_scopes.specs.Bindings.{type_meant}
use Rattle.cstar_tree.specs.Scopes.{Binding, Meaning, VariableType, a_function, a_shape, a_variable, find, of_shape, shape_meant}

-- the shape that is named, or the current one
abbrev pub shape_among : List Binding → Option ℕ → ShapeRef → Option ℕ
shape_among names current (R.Named name) = shape_meant (find names name.word)
shape_among names current (R.Current p) = current

-- the type that is written
abbrev pub of_written : List Binding → Option ℕ → TypeName → Option ShapeRef → Option ValueType
of_written names current written None = Some (record { elem = written.elem; shape = None })
of_written names current written (Some shape) = of_shape written (shape_among names current shape)

abbrev pub type_among : List Binding → Option ℕ → TypeName → Option ValueType
type_among names current written = of_written names current written written.shape

-- the fault of a name that is not known, or stands for something else
abbrev pub misnamed : Option Meaning → Fault
misnamed None = F.Unknown
misnamed (Some m) = F.WrongKind

-- where a shape is wanted that there is not
abbrev pub no_shape : List Binding → ShapeRef → Option (Fault × Place)
no_shape names (R.Named name) = Some (misnamed (find names name.word), name.place)
no_shape names (R.Current p) = Some (F.NoShape, p)

-- the answer for a shape that is wanted, and so on for what else is named
abbrev pub IsShapeAmong : List Binding → Option ℕ → ShapeRef → Result ℕ Untyped → Type 0
IsShapeAmong names current shape (Ok s) = shape_among names current shape ≡ Some s
IsShapeAmong names current shape (Err u) = (shape_among names current shape ≡ None) × (told_by u ≡ no_shape names shape)

abbrev pub no_type : List Binding → Option ShapeRef → Option (Fault × Place)
no_type names None = None
no_type names (Some shape) = no_shape names shape

abbrev pub IsTypeAmong : List Binding → Option ℕ → TypeName → Result ValueType Untyped → Type 0
IsTypeAmong names current written (Ok ty) = type_among names current written ≡ Some ty
IsTypeAmong names current written (Err u) = (type_among names current written ≡ None) × (told_by u ≡ no_type names written.shape)

-- a variable that is named, with its type, where it has one
abbrev pub typed_variable : Option Meaning → Option VariableType
typed_variable None = None
typed_variable (Some (a_shape s)) = None
typed_variable (Some (a_function f)) = None
typed_variable (Some (a_variable v t)) = t

-- where a variable is wanted: one with a faulty declaration has no fault of its own
abbrev pub TellsNoVariable : Option Meaning → Place → Untyped → Type 0
TellsNoVariable None p u = told_by u ≡ Some (F.Unknown, p)
TellsNoVariable (Some (a_shape s)) p u = told_by u ≡ Some (F.WrongKind, p)
TellsNoVariable (Some (a_function f)) p u = told_by u ≡ Some (F.WrongKind, p)
TellsNoVariable (Some (a_variable v None)) p u = u ≡ U.Faulty
TellsNoVariable (Some (a_variable v (Some t))) p u = ⊥

abbrev pub IsVariableAmong : List Binding → Name → Result (Variable × Names.VariableType) Untyped → Type 0
IsVariableAmong names name (Ok found) = find names name.word ≡ Some (a_variable found.0 (type_meant (Some found.1)))
IsVariableAmong names name (Err u) = TellsNoVariable (find names name.word) name.place u

-- where a function is wanted
abbrev pub TellsNoFunction : Option Meaning → Place → Untyped → Type 0
TellsNoFunction None p u = told_by u ≡ Some (F.Unknown, p)
TellsNoFunction (Some (a_shape s)) p u = told_by u ≡ Some (F.WrongKind, p)
TellsNoFunction (Some (a_function f)) p u = ⊥
TellsNoFunction (Some (a_variable v t)) p u = told_by u ≡ Some (F.WrongKind, p)

abbrev pub IsFunctionAmong : List Binding → Name → Result ℕ Untyped → Type 0
IsFunctionAmong names name (Ok f) = find names name.word ≡ Some (a_function f)
IsFunctionAmong names name (Err u) = TellsNoFunction (find names name.word) name.place u
