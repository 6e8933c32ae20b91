-- What is known at the places of a file without shapes, and which calls may be made there.
use Rattle.std.specs.Prelude.{◌≡◌, ◌⊎◌, ℕ, Bool, true, IfSome, List, map, slice_get, Option, Some, None}
use Rattle.cstar_base.specs.declared.elem.Elem.{Elem}
use Rattle.cstar_tree.specs.declared.typed.ValueType.{ValueType}
use Rattle.cstar_tree.specs.ExpressionTypes.{Gives}
use Rattle.cstar_tree.specs.Headers.{Leads, Placed, Program, header_place, parameter_types, returns_of}
use Rattle.cstar_tree.specs.Scopes.{Here, Meaning, VariableType, a_function, a_shape, a_variable, meaning}

abbrev pub IsPlainType : VariableType → Type 0
IsPlainType ty = (ty.value.shape ≡ None) × (ty.array ≡ None)

-- a name stands for no shape, and for a scalar variable if for one
abbrev pub MeansScalar : Meaning → Type 0
MeansScalar (a_shape number) = ⊥
MeansScalar (a_function number) = Unit {0}
MeansScalar (a_variable v ty) = IfSome ty IsPlainType

abbrev pub NamesScalars : Here → Type 0
NamesScalars here = (word : List ℕ) (m : Meaning) → meaning here word ≡ Some m → MeansScalar m

-- A place in the function of this number, of a file with these shapes: no shape is named, none is current, and the
-- variables that names stand for are scalar ones.
pub record IsScalarPlace (shapes : List (List ℕ)) (around : ℕ) (here : Here) : Type 0 where
  pub its_shapes : here.shapes ≡ shapes
  pub its_function : here.around ≡ Some around
  pub current : here.current ≡ None
  pub dot : here.dot ≡ None
  pub means : NamesScalars here

-- where the header of a function stands that is reached under no shape
abbrev pub callee_place : List (List ℕ) → Placed → ℕ → Here
callee_place shapes placed f = header_place shapes placed (record { function = f; current = None })

-- a call for its value, where it gives one, or for its effect
abbrev pub IsUsed : Option Elem → ValueType → Bool → Type 0
IsUsed used ty has_value = (used ≡ None) ⊎ ((has_value ≡ true) × (used ≡ Some ty.elem))

-- The calls that the rules allow in the function of this number, of the instances that are called in it, may be made.
abbrev pub AllowsCalls : Program → List (List ℕ) → ℕ → (ℕ → Type 0) → (Option Elem → ℕ → List Elem → Type 0) → Type 0
AllowsCalls program shapes around Called calls =
    (f instance : ℕ) (placed : Placed) (types : List ValueType) (ty : ValueType) (has_value : Bool) (used : Option Elem) →
    slice_get program.functions f ≡ Some placed → (Leads program.calls f around → ⊥) → Called instance →
    slice_get program.instances instance ≡ Some (record { function = f; current = None }) →
    parameter_types (callee_place shapes placed f) 0 placed.function.parameters.items ≡ map Some types →
    Gives (returns_of (callee_place shapes placed f) placed.function.result) ty has_value → IsUsed used ty has_value →
    calls used instance (map (λ (ty : ValueType). ty.elem) types)
