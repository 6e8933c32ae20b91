-- The nodes of a file's tree, counted for the bound on its size.
use Rattle.std.specs.Prelude.{ℕ, ◌+◌, List, [], ◌∷◌, map, length, slice_get, Option, Some, None}
use Rattle.cstar_tree.specs.declared.syntax.Block.{Block}
use Rattle.cstar_tree.specs.declared.syntax.Declaration.{Declaration}
use Rattle.cstar_tree.specs.declared.syntax.Declarator.{Declarator}
use Rattle.cstar_tree.specs.declared.syntax.Expr.{Expr}
use Rattle.cstar_tree.specs.declared.syntax.Expr.TheOpen.{Expr-F}
use Rattle.cstar_tree.specs.declared.syntax.Expr.TheFolds.{fold-Expr}
use Rattle.cstar_tree.specs.declared.syntax.Item.{Item}
use Rattle.cstar_tree.specs.declared.syntax.Item.TheVariants as I
use Rattle.cstar_tree.specs.declared.syntax.ShapeDefinition.{ShapeDefinition}
use Rattle.cstar_tree.specs.declared.syntax.Stmt.{Stmt}
use Rattle.cstar_tree.specs.declared.syntax.Stmt.TheOpen.{Block-F, Stmt-F}
use Rattle.cstar_tree.specs.declared.syntax.Stmt.TheFolds.{fold-Stmt}
use Rattle.cstar_tree.specs.declared.syntax.Tree.{Tree}
use Rattle.cstar_tree.specs.declared.typed.ValueType.{ValueType}
use Rattle.cstar_tree.specs.BlockScopes.{behind_declarations, behind_declarator, behind_declarators, block_place}
use Rattle.cstar_tree.specs.FileScopes.{Known, behind_item, behind_shape, behind_variable, file_known, file_place, functions_named, nothing_known}
use Rattle.cstar_tree.specs.Headers.{Placed, Program, Reached, body_place}
use Rattle.cstar_tree.specs.Instances.{program_of}
use Rattle.cstar_tree.specs.Scopes.{Binding, Here, Meaning, a_function, a_shape, a_variable, meaning, shape_of, under, written_type}
use Rattle.cstar_tree.specs.SyntaxParts.{expressions_of, initial_values, parts_of, statements_of}
use Rattle.cstar_tree.specs.TypedParts.{optional, total}

-- how many elements a name with a right index has
abbrev pub length_or_one : Option ℕ → ℕ
length_or_one None = 1
length_or_one (Some length) = length

abbrev pub elements : Option Meaning → ℕ
elements None = 1
elements (Some (a_shape s)) = 1
elements (Some (a_function f)) = 1
elements (Some (a_variable v None)) = 1
elements (Some (a_variable v (Some t))) = length_or_one t.array

-- one for each name, constant, `.`, pair of brackets, cast, operator, call, intrinsic and left index;
-- a right-indexed name counts as often as its array has elements
abbrev pub node_step : Here → Expr-F ℕ → ℕ
node_step here (Expr-F.Casts casts operand) = length casts.items + operand.value
node_step here (Expr-F.Element n bracket index) = elements (meaning here n.word) + index.value
node_step here node = 1 + total (parts_of node)

abbrev pub expression_nodes : Here → Expr → ℕ
expression_nodes here = fold-Expr ℕ (node_step here)

abbrev pub all_nodes : Here → List Expr → ℕ
all_nodes here es = total (map (expression_nodes here) es)

-- one for each declared variable, with its length and its initialiser
unfoldable pub declarator_nodes : Here → Option ValueType → List Declarator → ℕ
declarator_nodes here ty [] = 0
declarator_nodes here ty (d ∷ ds) =
    1 + all_nodes here (optional d.length) + all_nodes (behind_declarator here ty d) (initial_values d.initial) + declarator_nodes (behind_declarator here ty d) ty ds

-- a declaration of a block is no node beside its variables
unfoldable pub declaration_nodes : Here → List Declaration → ℕ
declaration_nodes here [] = 0
declaration_nodes here (d ∷ ds) =
    declarator_nodes here (written_type here d.type_name) d.variables.items + declaration_nodes (behind_declarators here (written_type here d.type_name) d.variables.items) ds

unfoldable pub total_at : Here → List (Here → ℕ) → ℕ
total_at here [] = 0
total_at here (count ∷ rest) = count here + total_at here rest

-- what stands under a `with` that names no shape is not typed
abbrev pub nodes_under : Here → Option ℕ → (Here → ℕ) → ℕ
nodes_under here None count = 0
nodes_under here (Some shape) count = count (under here shape)

-- one for each statement and each block
abbrev pub statement_step : Stmt-F (Here → ℕ) (Here → ℕ) → Here → ℕ
statement_step (Stmt-F.Block block) here = block (block_place here)
statement_step (Stmt-F.With p shape body) here = 1 + nodes_under here (shape_of here shape) body.value
statement_step node here = 1 + all_nodes here (expressions_of node) + total_at here (statements_of node)

abbrev pub block_step : Block-F (Here → ℕ) (Here → ℕ) → Here → ℕ
block_step block here = 1 + declaration_nodes here block.declarations.items + total_at (behind_declarations here block.declarations.items) block.statements.items

abbrev pub statement_nodes : Stmt → Here → ℕ
statement_nodes = fold-Stmt (Here → ℕ) (Here → ℕ) statement_step block_step

abbrev pub block_nodes : Block → Here → ℕ
block_nodes block here = 1 + declaration_nodes here block.declarations.items + total_at (behind_declarations here block.declarations.items) (map statement_nodes block.statements.items)

-- an instance: its item, its parameters and its body
abbrev pub placed_nodes : List (List ℕ) → Reached → Option Placed → ℕ
placed_nodes shapes r None = 0
placed_nodes shapes r (Some placed) = 1 + length placed.function.parameters.items + block_nodes placed.function.body (body_place shapes placed r)

unfoldable pub instance_nodes : Program → List (List ℕ) → List Reached → ℕ
instance_nodes program shapes [] = 0
instance_nodes program shapes (r ∷ rs) = placed_nodes shapes r (slice_get program.functions r.function) + instance_nodes program shapes rs

-- one for each item of shapes or variables, each shape and each variable
unfoldable pub shape_nodes : List Binding → Known → List ShapeDefinition → ℕ
shape_nodes functions known [] = 0
shape_nodes functions known (s ∷ ss) = 1 + all_nodes (file_place functions known) s.extents.items + shape_nodes functions (behind_shape functions known s) ss

unfoldable pub variable_nodes : List Binding → Option ValueType → Known → List Declarator → ℕ
variable_nodes functions ty known [] = 0
variable_nodes functions ty known (d ∷ ds) =
    let next = behind_variable functions ty known d in
    1 + all_nodes (file_place functions known) (optional d.length) + all_nodes (file_place functions next) (initial_values d.initial) + variable_nodes functions ty next ds

unfoldable pub item_nodes : List Binding → Known → Item → ℕ
item_nodes functions known (I.Shapes p shapes) = 1 + shape_nodes functions known shapes.items
item_nodes functions known (I.Variables d) = 1 + variable_nodes functions (written_type (file_place functions known) d.type_name) known d.variables.items
item_nodes functions known (I.Function f) = 0

unfoldable pub items_nodes : List Binding → Known → List Item → ℕ
items_nodes functions known [] = 0
items_nodes functions known (item ∷ items) = item_nodes functions known item + items_nodes functions (behind_item functions known item) items

-- the declarations of the file once, and each function once for each instance
abbrev pub tree_nodes : Tree → ℕ
tree_nodes tree = items_nodes (functions_named tree) nothing_known tree.items.items + instance_nodes (program_of tree) (file_known tree).shapes (program_of tree).instances
