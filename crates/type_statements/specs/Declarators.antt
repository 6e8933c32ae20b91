-- What is answered for a declared variable: its length, its type and its initialiser.
use Rattle.std.specs.Prelude.{◌≡◌, ◌≤◌, ◌^◌, nat_lt, ℕ, ℤ, pos, negsuc, true, Option, Some, None, Result, Ok, Err, Box, if◌then◌else◌}
use Rattle.std.specs.declared.alloc.Global.{Global}
use Rattle.cstar_base.specs.declared.faults.Fault.TheVariants as Faults
use Rattle.cstar_base.specs.declared.operators.Place.{Place}
use Rattle.cstar_tree.specs.declared.syntax.Declarator.{Declarator}
use Rattle.cstar_tree.specs.declared.syntax.Expr.{Expr}
use Rattle.cstar_tree.specs.declared.syntax.Initializer.{Initializer}
use Rattle.cstar_tree.specs.declared.typed.LocalVar.{LocalVar}
use Rattle.cstar_tree.specs.declared.typed.TExpr.{TExpr}
use Rattle.cstar_tree.specs.declared.typed.ValueType.{ValueType}
use Rattle.cstar_tree.specs.BlockScopes.{with_length}
use Rattle.cstar_tree.specs.Constants.{constant_number}
use Rattle.cstar_tree.specs.Conversions.{IsFitted}
use Rattle.cstar_tree.specs.Headers.{Program, plain_type}
use Rattle.cstar_tree.specs.Scopes.{Here, IsAtHand}
use Rattle.cstar_tree.specs.Scopes as S
use Rattle.cstar_tree.specs.StatementTypes.{variable_info}
use Rattle.cstar_tree.specs.Typed.{type_of}
use Rattle.type_expressions.specs.Along.{number_of_constant}
use Rattle.type_expressions.specs.Walks.{IsAround, IsValue}
use Rattle.type_expressions.specs.declared.found.Instances.{Instances}
use Rattle.type_expressions.specs.declared.found.TypedExpr.{TypedExpr}
use Rattle.type_scopes.specs.Answers.{told_by}
use Rattle.type_scopes.specs.Bindings.{variable_type}
use Rattle.type_scopes.specs.declared.faults.Untyped.{Untyped}
use Rattle.type_scopes.specs.declared.faults.Untyped.TheVariants as N
use Rattle.type_scopes.specs.declared.file.File.{File}
use Rattle.type_scopes.specs.declared.locals.Locals.{Locals}
use Rattle.type_scopes.specs.declared.names.VariableType.{VariableType}
use Rattle.type_scopes.specs.declared.sites.Site.{Site}
use Rattle.type_statements.specs.Ready.{IsReady}
use Rattle.type_statements.specs.declared.declarations.Initial.{Initial}
use Rattle.type_statements.specs.declared.declarations.Length.{Length}
use Rattle.type_statements.specs.declared.declarations.Length.TheVariants as L

-- what is answered for a constant expression at a place: its number, if it has a value and is one
abbrev pub IsConstantNumber : Place → Option TypedExpr → Result ℤ Untyped → Type 0
IsConstantNumber p None (Ok n) = ⊥
IsConstantNumber p None (Err u) = u ≡ N.Faulty
IsConstantNumber p (Some t) (Ok n) = (t.has_value ≡ true) × (number_of_constant t.expr.value ≡ Some n)
IsConstantNumber p (Some t) (Err u) = told_by u ≡ Some (Faults.Constant, p)

-- the length of an array, if one is written
abbrev pub IsLength : Instances → File → Locals → Site → Option Expr → Length → Type 0
IsLength so_far file locals site None length = length ≡ L.Absent
IsLength so_far file locals site (Some e) L.Absent = ⊥
IsLength so_far file locals site (Some e) L.Faulty = Unit {0}
IsLength so_far file locals site (Some e) (L.Of n) = (program : Program) (here : Here) → IsAround file locals site here → IsReady so_far file program here e → constant_number here e ≡ Some n

-- a number as a length that 32 bits count
abbrev pub counted : ℤ → Option ℤ
counted (pos n) = if nat_lt n (2 ^ 32) then Some (pos n) else None
counted (negsuc n) = None

-- the type of a variable of the type that is written with this length
abbrev pub type_with : Length → Option ValueType → Option S.VariableType
type_with L.Absent ty = plain_type ty
type_with L.Faulty ty = None
type_with (L.Of n) None = None
type_with (L.Of n) (Some ty) = with_length ty (counted n)

-- a length from 1 to 64
abbrev pub IsFitting : ℤ → Type 0
IsFitting (pos n) = (1 ≤ n) × (n ≤ 64)
IsFitting (negsuc n) = ⊥

-- an array has a shape, as far as its type is known, a fitting length, as far as that is, and no
-- initialiser
abbrev pub HasShapeIfKnown : Option ValueType → Type 0
HasShapeIfKnown None = Unit {0}
HasShapeIfKnown (Some ty) = (shape : ℕ) × (ty.shape ≡ Some shape)

abbrev pub FitsArray : Option ValueType → Length → Option Initializer → Type 0
FitsArray ty L.Absent initial = Unit {0}
FitsArray ty L.Faulty initial = HasShapeIfKnown ty × (initial ≡ None)
FitsArray ty (L.Of n) initial = HasShapeIfKnown ty × IsFitting n × (initial ≡ None)

-- the initialiser with the place of its `=`, if there is one
abbrev pub IsInitial : Instances → File → Locals → Site → Option Initializer → Option Initial → Type 0
IsInitial so_far file locals site None initial = initial ≡ None
IsInitial so_far file locals site (Some i) None = ⊥
IsInitial so_far file locals site (Some i) (Some initial) = (initial.place ≡ i.place) × IsValue so_far file locals site i.value initial.value

-- a typed initialiser is brought to the type of its variable
pub record IsInitialised (site : Site) (ty : VariableType) (initial : Initial) (f : TExpr) : Type 0 where
  pub value : Box TExpr Global
  pub is_typed : initial.value ≡ Some value
  pub at_hand : IsAtHand site.current ty.shape
  pub is_scalar : ty.shape ≡ None → (type_of value.value).shape ≡ None
  pub is_fitted : IsFitted value.value (variable_type ty).value f

abbrev pub IsInitialisedIf : Site → VariableType → Option Initial → Option TExpr → Type 0
IsInitialisedIf site ty None f = f ≡ None
IsInitialisedIf site ty (Some i) None = ⊥
IsInitialisedIf site ty (Some i) (Some f) = IsInitialised site ty i f

-- the variable of a declarator, with its initialiser
pub record IsVariable (site : Site) (ty : VariableType) (d : Declarator) (initial : Option Initial) (local : LocalVar) : Type 0 where
  pub info : local.info ≡ variable_info d.name.word (variable_type ty) 0
  pub initialised : IsInitialisedIf site ty initial local.initial
