-- What has to be known at a place for a typed tree that stands there to be shaped, and lowerable.
use Rattle.std.specs.Prelude.{◌≡◌, ℕ, List, ◌++◌, Some, IfSome, IsSome, is_none, false, slice_get}
use Rattle.cstar_tree.specs.declared.typed.Instance.{Instance}
use Rattle.cstar_tree.specs.declared.typed.Typed.{Typed}
use Rattle.cstar_tree.specs.declared.typed.ValueType.{ValueType}
use Rattle.cstar_tree.specs.declared.typed.Variable.{Variable}
use Rattle.cstar_tree.specs.Headers.{Placed, Program, Reached, header_place, returns_of}
use Rattle.cstar_tree.specs.ProgramTypes.{TypesParameters, TypesResult}
use Rattle.cstar_tree.specs.Scopes.{Binding, Here, a_shape, a_variable, find, meaning}
use Rattle.code_lengths.specs.Shaped.{HasShape}

-- a name that stands for an array stands for a parallel one
abbrev pub ArraysAreParallel : List Binding → Type 0
ArraysAreParallel names =
    (word : List ℕ) (v : Variable) (ty : ValueType) (length : ℕ) → find names word ≡ Some (a_variable v (Some (record { value = ty; array = Some length }))) → HasShape ty

-- the arrays that are known at a place are parallel, and a `.` that has an axis stands under a shape
pub record IsSound (here : Here) : Type 0 where
  pub arrays : ArraysAreParallel (here.names.inner ++ here.names.outer)
  pub dot : (axis : ℕ) → here.dot ≡ Some axis → is_none here.current ≡ false

-- a shape of the program
abbrev pub IsShapeOf : Typed → ℕ → Type 0
IsShapeOf t number = IsSome (slice_get t.shapes.items number)

-- the shapes that names stand for at a place, and the current one, are the program's
pub record KnowsShapes (t : Typed) (here : Here) : Type 0 where
  pub named : (word : List ℕ) (number : ℕ) → meaning here word ≡ Some (a_shape number) → IsShapeOf t number
  pub current : IfSome here.current (IsShapeOf t)

-- a function under a current shape has an instance of this number, with its parameters and its result
pub record HasInstance (t : Typed) (shapes : List (List ℕ)) (number : ℕ) (r : Reached) (placed : Placed) : Type 0 where
  pub instance : Instance
  pub found : slice_get t.instances.items number ≡ Some instance
  pub parameters : TypesParameters (header_place shapes placed r) 0 placed.function.parameters.items instance.params.items
  pub result : TypesResult placed.function.name.word (returns_of (header_place shapes placed r) placed.function.result) instance.result

-- a place in a function, from which the typed program's instances are called
pub record IsInside (program : Program) (t : Typed) (here : Here) : Type 0 where
  pub around : IsSome here.around
  pub instances : (number : ℕ) (r : Reached) (placed : Placed) → slice_get program.instances number ≡ Some r → slice_get program.functions r.function ≡ Some placed → HasInstance t here.shapes number r placed
