-- The names of a file: its shapes, its functions and its variables.
use Rattle.std.specs.Prelude.{ℕ, ◌+◌, ◌^◌, ◌&&◌, nat_le, ℤ, pos, negsuc, zero, suc, List, [], ◌∷◌, ◌++◌, map, length, Bool, true, false, is_some, bytes_eq, Option, Some, None, if◌then◌else◌}
use Rattle.cstar_tree.specs.declared.syntax.Declarator.{Declarator}
use Rattle.cstar_tree.specs.declared.syntax.Expr.{Expr}
use Rattle.cstar_tree.specs.declared.syntax.Function.{Function}
use Rattle.cstar_tree.specs.declared.syntax.Item.{Item}
use Rattle.cstar_tree.specs.declared.syntax.Item.TheVariants as I
use Rattle.cstar_tree.specs.declared.syntax.ShapeDefinition.{ShapeDefinition}
use Rattle.cstar_tree.specs.declared.syntax.Tree.{Tree}
use Rattle.cstar_tree.specs.declared.typed.ValueType.{ValueType}
use Rattle.cstar_tree.specs.declared.typed.Variable.TheVariants as V
use Rattle.cstar_tree.specs.BlockScopes.{declared_type}
use Rattle.cstar_tree.specs.Constants.{constant_number, product}
use Rattle.cstar_tree.specs.Headers.{Placed}
use Rattle.cstar_tree.specs.Scopes.{Binding, Here, Meaning, a_function, a_shape, a_variable, find, written_type}

-- The functions of a file are known in all of it. Of two declarations of one name the first counts,
-- whatever it is.
unfoldable pub is_among : List ℕ → List (List ℕ) → Bool
is_among word [] = false
is_among word (w ∷ ws) = if bytes_eq w word then true else is_among word ws

abbrev pub words_of : Item → List (List ℕ)
words_of (I.Shapes p shapes) = map (λ (s : ShapeDefinition). s.name.word) shapes.items
words_of (I.Variables d) = map (λ (v : Declarator). v.name.word) d.variables.items
words_of (I.Function f) = f.name.word ∷ []

abbrev pub function_word : Item → Option (List ℕ)
function_word (I.Shapes p shapes) = None
function_word (I.Variables d) = None
function_word (I.Function f) = Some f.name.word

abbrev pub function_binding : List (List ℕ) → ℕ → Option (List ℕ) → List Binding
function_binding before number None = []
function_binding before number (Some word) =
    if is_among word before then [] else record { word = word; meaning = a_function number } ∷ []

-- the names of functions behind these words, the first new one with this number
unfoldable pub function_names : List (List ℕ) → ℕ → List Item → List Binding
function_names before number [] = []
function_names before number (item ∷ items) =
    let new = function_binding before number (function_word item) in
    new ++ function_names (words_of item ++ before) (number + length new) items

-- what a file has declared so far: its names, the extents of its shapes, and how many variables and
-- functions it has
pub record Known : Type 0 where
  pub names : List Binding
  pub shapes : List (List ℕ)
  pub variables : ℕ
  pub functions : ℕ

abbrev pub nothing_known : Known
nothing_known = record { names = []; shapes = []; variables = 0; functions = 0 }

-- a place at file scope: outside all functions and under no shape
abbrev pub file_place : List Binding → Known → Here
file_place functions known = record {
  names = record { inner = known.names; outer = functions };
  shapes = known.shapes;
  current = None;
  around = None;
  dot = None;
  whole = false;
  locals = 0;
  loop = false;
}

abbrev pub with_name : Known → List ℕ → Meaning → List Binding
with_name known word meaning = record { word = word; meaning = meaning } ∷ known.names

-- an extent is a constant expression, and at least 1
abbrev pub extent_of : Option ℤ → Option ℕ
extent_of None = None
extent_of (Some (pos zero)) = None
extent_of (Some (pos (suc n))) = Some (suc n)
extent_of (Some (negsuc n)) = None

abbrev pub next_extent : Option ℕ → Option (List ℕ) → Option (List ℕ)
next_extent None rest = None
next_extent (Some n) None = None
next_extent (Some n) (Some rest) = Some (n ∷ rest)

unfoldable pub extents_from : Here → List Expr → Option (List ℕ)
extents_from here [] = Some []
extents_from here (e ∷ es) = next_extent (extent_of (constant_number here e)) (extents_from here es)

-- a shape has at most 4 axes and at most 2 ^ 20 positions
abbrev pub bounded : Option (List ℕ) → Option (List ℕ)
bounded None = None
bounded (Some extents) = if nat_le (length extents) 4 && nat_le (product extents) (2 ^ 20) then Some extents else None

-- the extents that a definition gives, where it has no fault
unfoldable pub defined_extents : Here → ShapeDefinition → Option (List ℕ)
defined_extents here s = bounded (extents_from here s.extents.items)

-- The extents that a shape keeps, also where its definition has a fault: one that is no constant
-- expression counts 1, and a negative one 0.
abbrev pub kept_extent : Option ℤ → ℕ
kept_extent None = 1
kept_extent (Some (pos n)) = n
kept_extent (Some (negsuc n)) = 0

unfoldable pub kept_extents : Here → List Expr → List ℕ
kept_extents here [] = []
kept_extents here (e ∷ es) = kept_extent (constant_number here e) ∷ kept_extents here es

-- what is known behind a shape, a variable and an item; a name that the file has already declares
-- nothing
unfoldable pub behind_shape : List Binding → Known → ShapeDefinition → Known
behind_shape functions known s =
    if is_some (find known.names s.name.word) then known
    else record {
      names = with_name known s.name.word (a_shape (length known.shapes));
      shapes = known.shapes ++ kept_extents (file_place functions known) s.extents.items ∷ [];
      variables = known.variables;
      functions = known.functions;
    }

unfoldable pub behind_variable : List Binding → Option ValueType → Known → Declarator → Known
behind_variable functions ty known d =
    if is_some (find known.names d.name.word) then known
    else record {
      names = with_name known d.name.word (a_variable (V.File known.variables) (declared_type (file_place functions known) ty d.length));
      shapes = known.shapes;
      variables = known.variables + 1;
      functions = known.functions;
    }

unfoldable pub behind_function : Known → Function → Known
behind_function known f =
    if is_some (find known.names f.name.word) then known
    else record {
      names = with_name known f.name.word (a_function known.functions);
      shapes = known.shapes;
      variables = known.variables;
      functions = known.functions + 1;
    }

unfoldable pub behind_shapes : List Binding → Known → List ShapeDefinition → Known
behind_shapes functions known [] = known
behind_shapes functions known (s ∷ ss) = behind_shapes functions (behind_shape functions known s) ss

unfoldable pub behind_variables : List Binding → Option ValueType → Known → List Declarator → Known
behind_variables functions ty known [] = known
behind_variables functions ty known (d ∷ ds) = behind_variables functions ty (behind_variable functions ty known d) ds

unfoldable pub behind_item : List Binding → Known → Item → Known
behind_item functions known (I.Shapes p shapes) = behind_shapes functions known shapes.items
behind_item functions known (I.Variables d) = behind_variables functions (written_type (file_place functions known) d.type_name) known d.variables.items
behind_item functions known (I.Function f) = behind_function known f

unfoldable pub behind_items : List Binding → Known → List Item → Known
behind_items functions known [] = known
behind_items functions known (item ∷ items) = behind_items functions (behind_item functions known item) items

-- A body sees the shapes and variables that stand before its function, and all functions.
abbrev pub placed_of : List Binding → Known → Item → List Placed
placed_of functions known (I.Shapes p shapes) = []
placed_of functions known (I.Variables d) = []
placed_of functions known (I.Function f) =
    if is_some (find known.names f.name.word) then [] else record { function = f; known = known.names ++ functions } ∷ []

unfoldable pub placed_from : List Binding → Known → List Item → List Placed
placed_from functions known [] = []
placed_from functions known (item ∷ items) = placed_of functions known item ++ placed_from functions (behind_item functions known item) items

abbrev pub functions_named : Tree → List Binding
functions_named tree = function_names [] 0 tree.items.items

-- what is known behind the whole file, and its functions by their numbers
abbrev pub file_known : Tree → Known
file_known tree = behind_items (functions_named tree) nothing_known tree.items.items

abbrev pub file_functions : Tree → List Placed
file_functions tree = placed_from (functions_named tree) nothing_known tree.items.items
