-- The headers of functions, and the program that a call stands in.
use Rattle.std.specs.Prelude.{◌≡◌, ℕ, ◌+◌, List, [], ◌∷◌, false, Option, Some, None, slice_get}
use Rattle.cstar_tree.specs.declared.syntax.Function.{Function}
use Rattle.cstar_tree.specs.declared.syntax.Parameter.{Parameter}
use Rattle.cstar_tree.specs.declared.syntax.ResultType.{ResultType}
use Rattle.cstar_tree.specs.declared.syntax.ResultType.TheVariants as R
use Rattle.cstar_tree.specs.declared.typed.ValueType.{ValueType}
use Rattle.cstar_tree.specs.declared.typed.Variable.TheVariants as V
use Rattle.cstar_tree.specs.Conversions.{int, scalar}
use Rattle.cstar_tree.specs.Scopes.{Binding, Here, VariableType, a_variable, declared, written_type}

-- a function of the file with the names of the file that are known in it
pub record Placed : Type 0 where
  pub function : Function
  pub known : List Binding

-- a function under a current shape, or none, with which it is reached
pub record Reached : Type 0 where
  pub function : ℕ
  pub current : Option ℕ

-- What calls are about: the functions of the file by their numbers, for each the numbers of those
-- that it calls in the text, and the instances of the program by theirs.
pub record Program : Type 0 where
  pub functions : List Placed
  pub calls : List (List ℕ)
  pub instances : List Reached

abbrev pub plain_type : Option ValueType → Option VariableType
plain_type None = None
plain_type (Some ty) = Some (record { value = ty; array = None })

-- A parameter is known behind its declaration, so a shape that is named in a header may be hidden
-- by an earlier parameter.
abbrev pub behind_parameter : Here → ℕ → Parameter → Here
behind_parameter here number p = record here {
  names = declared here.names p.name.word (a_variable (V.Param number) (plain_type (written_type here p.type_name)));
}

unfoldable pub behind_parameters : Here → ℕ → List Parameter → Here
behind_parameters here number [] = here
behind_parameters here number (p ∷ ps) = behind_parameters (behind_parameter here number p) (number + 1) ps

-- the types of parameters, each absent where it has a fault
unfoldable pub parameter_types : Here → ℕ → List Parameter → List (Option ValueType)
parameter_types here number [] = []
parameter_types here number (p ∷ ps) = written_type here p.type_name ∷ parameter_types (behind_parameter here number p) (number + 1) ps

-- what a function returns: nothing, a value of a type, or one whose type has a fault
pub data Returns : Type 0 where
  nothing : Returns
  a_value : ValueType → Returns
  unknown : Returns

abbrev pub a_result : Option ValueType → Returns
a_result None = unknown
a_result (Some ty) = a_value ty

-- a function without a written type returns an `int`
abbrev pub returns_of : Here → ResultType → Returns
returns_of here R.Unwritten = a_value (scalar int)
returns_of here R.Void = nothing
returns_of here (R.Written written) = a_result (written_type here written)

-- where the header of a function stands, under a current shape: the parameters and the outermost
-- block are one scope inside that of the file
abbrev pub header_place : List (List ℕ) → Placed → Reached → Here
header_place shapes placed reached = record {
  names = record { inner = []; outer = placed.known };
  shapes = shapes;
  current = reached.current;
  around = Some reached.function;
  dot = None;
  whole = false;
  locals = 0;
  loop = false;
}

-- where the outermost block stands
abbrev pub body_place : List (List ℕ) → Placed → Reached → Here
body_place shapes placed reached = behind_parameters (header_place shapes placed reached) 0 placed.function.parameters.items

-- the one function is the other, or calls it through any number of calls
pub data Leads (calls : List (List ℕ)) : ℕ → ℕ → Type 0 where
  is_it : {f : ℕ} → Leads calls f f
  calls_it : {f g h : ℕ} {called : List ℕ} (number : ℕ) → slice_get calls f ≡ Some called → slice_get called number ≡ Some g → Leads calls g h → Leads calls f h
