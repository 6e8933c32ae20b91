-- What names stand for at a place of a file.
use Rattle.std.specs.Prelude.{ℕ, List, [], ◌∷◌, ◌++◌, Bool, true, false, ◌==◌, bytes_eq, is_some, slice_get, Option, Some, None, if◌then◌else◌}
use Rattle.cstar_tree.specs.declared.syntax.ShapeRef.{ShapeRef}
use Rattle.cstar_tree.specs.declared.syntax.ShapeRef.TheVariants as R
use Rattle.cstar_tree.specs.declared.syntax.TypeName.{TypeName}
use Rattle.cstar_tree.specs.declared.typed.ValueType.{ValueType}
use Rattle.cstar_tree.specs.declared.typed.Variable.{Variable}

-- the type of a variable: that of its value or of its elements, and the length of an array
pub record VariableType : Type 0 where
  pub value : ValueType
  pub array : Option ℕ

-- what a name stands for: a shape or a function by its number, or a variable with its type; the
-- type is absent where the type or the length that is written has a fault
pub data Meaning : Type 0 where
  a_shape : ℕ → Meaning
  a_function : ℕ → Meaning
  a_variable : Variable → Option VariableType → Meaning

pub record Binding : Type 0 where
  pub word : List ℕ
  pub meaning : Meaning

-- what a word stands for in a list of names
unfoldable pub find : List Binding → List ℕ → Option Meaning
find [] word = None
find (b ∷ rest) word = if bytes_eq b.word word then Some b.meaning else find rest word

-- the names of the innermost scope around a place, and those of the scopes around that
pub record Names : Type 0 where
  pub inner : List Binding
  pub outer : List Binding

-- a scope of its own is opened
abbrev pub opened : Names → Names
opened names = record { inner = []; outer = names.inner ++ names.outer }

-- a word is declared in the innermost scope: of two declarations of one name the first counts
abbrev pub declared : Names → List ℕ → Meaning → Names
declared names word meaning =
    if is_some (find names.inner word) then names
    else record { inner = record { word = word; meaning = meaning } ∷ names.inner; outer = names.outer }

-- Where an expression or a statement stands: the names around it, the extents of each shape of the
-- file, the current shape, and the function around.
-- `dot` is the axis that a `.` means in a left index. `whole` tells of an expression that it is a
-- whole statement, or the first or third part of a `for`. `locals` is how many variables of blocks
-- the function has declared before. `loop` tells whether a loop of the function is around.
pub record Here : Type 0 where
  pub names : Names
  pub shapes : List (List ℕ)
  pub current : Option ℕ
  pub around : Option ℕ
  pub dot : Option ℕ
  pub whole : Bool
  pub locals : ℕ
  pub loop : Bool

-- the place of a part of an expression, and that of a whole expression
abbrev pub part : Here → Here
part here = record here { whole = false }

abbrev pub as_whole : Here → Here
as_whole here = record here { whole = true }

-- the place of what stands under a current shape
abbrev pub under : Here → ℕ → Here
under here shape = record here { current = Some shape }

-- what a word stands for here: the innermost scope that has it decides
unfoldable pub meaning : Here → List ℕ → Option Meaning
meaning here word = find (here.names.inner ++ here.names.outer) word

abbrev pub shape_meant : Option Meaning → Option ℕ
shape_meant None = None
shape_meant (Some (a_shape s)) = Some s
shape_meant (Some (a_function f)) = None
shape_meant (Some (a_variable v t)) = None

-- the shape that is named, or the current one
abbrev pub shape_of : Here → ShapeRef → Option ℕ
shape_of here (R.Named name) = shape_meant (meaning here name.word)
shape_of here (R.Current place) = here.current

abbrev pub of_shape : TypeName → Option ℕ → Option ValueType
of_shape written None = None
of_shape written (Some s) = Some (record { elem = written.elem; shape = Some s })

abbrev pub of_written : Here → TypeName → Option ShapeRef → Option ValueType
of_written here written None = Some (record { elem = written.elem; shape = None })
of_written here written (Some shape) = of_shape written (shape_of here shape)

-- the type that is written, where its shape is known
abbrev pub written_type : Here → TypeName → Option ValueType
written_type here written = of_written here written written.shape

-- the extents of a shape
unfoldable pub extents_of : Here → ℕ → Option (List ℕ)
extents_of here shape = slice_get here.shapes shape

-- A whole parallel value has the current shape (the rule of C* for what is not left-indexed); a
-- scalar one may stand anywhere.
pub data IsAtHand : Option ℕ → Option ℕ → Type 0 where
  scalar : {current : Option ℕ} → IsAtHand current None
  of_current : {shape : ℕ} → IsAtHand (Some shape) (Some shape)

-- does the name stand for a variable of the current shape, whose left index gives a `.` its meaning?
abbrev pub is_shape : ℕ → Option ℕ → Bool
is_shape current None = false
is_shape current (Some shape) = current == shape

abbrev pub stands_under : Option ℕ → Option Meaning → Bool
stands_under None m = false
stands_under (Some c) None = false
stands_under (Some c) (Some (a_shape s)) = false
stands_under (Some c) (Some (a_function f)) = false
stands_under (Some c) (Some (a_variable v None)) = false
stands_under (Some c) (Some (a_variable v (Some t))) = is_shape c t.value.shape

-- the place of the index of a number before a name
unfoldable pub index_place : Here → List ℕ → ℕ → Here
index_place here word axis = record here {
  dot = (if stands_under here.current (meaning here word) then Some axis else None);
  whole = false;
}
