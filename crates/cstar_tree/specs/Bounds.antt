-- How deep a tree nests, and how many operators its expressions have.
use Rattle.std.specs.Prelude.{ℕ, ◌+◌, ◌≤◌, max, List, ◌++◌, map, Option, Some, None}
use Rattle.cstar_tree.specs.declared.syntax.Block.{Block}
use Rattle.cstar_tree.specs.declared.syntax.Declaration.{Declaration}
use Rattle.cstar_tree.specs.declared.syntax.Declarator.{Declarator}
use Rattle.cstar_tree.specs.declared.syntax.Expr.{Expr}
use Rattle.cstar_tree.specs.declared.syntax.Expr.TheOpen.{Expr-F}
use Rattle.cstar_tree.specs.declared.syntax.Expr.TheFolds.{fold-Expr}
use Rattle.cstar_tree.specs.declared.syntax.Item.{Item}
use Rattle.cstar_tree.specs.declared.syntax.Item.TheVariants as I
use Rattle.cstar_tree.specs.declared.syntax.Name.{Name}
use Rattle.cstar_tree.specs.declared.syntax.ShapeDefinition.{ShapeDefinition}
use Rattle.cstar_tree.specs.declared.syntax.Stmt.{Stmt}
use Rattle.cstar_tree.specs.declared.syntax.Stmt.TheOpen.{Block-F, Stmt-F}
use Rattle.cstar_tree.specs.declared.syntax.Stmt.TheFolds.{fold-Stmt}
use Rattle.cstar_tree.specs.declared.syntax.Tree.{Tree}
use Rattle.cstar_tree.specs.Room.{greatest}
use Rattle.cstar_tree.specs.SyntaxParts.{expressions_of, initial_values, parts_of, statements_of}
use Rattle.cstar_tree.specs.TypedParts.{concat, optional, total}

-- the `&` before the name of a bit
abbrev pub bit_operators : Option Name → ℕ
bit_operators None = 0
bit_operators (Some bit) = 1

-- The tokens of a node itself that are operators: no name, constant, text, reserved word, bracket or
-- comma. A `.` is one, `?:` has two, and the type of a parallel cast has its `:`.
abbrev pub own_operators : {A : Type 0} → Expr-F A → ℕ
own_operators (Expr-F.Assign p op target value) = 1
own_operators (Expr-F.Choice p test second third) = 2
own_operators (Expr-F.Binary p op left right) = 1
own_operators (Expr-F.Prefix p op operand) = 1
own_operators (Expr-F.ParallelCast p written operand) = 1
own_operators (Expr-F.Postfix p op operand) = 1
own_operators (Expr-F.Dot p) = 1
own_operators (Expr-F.Scan p source axis _ _ _ bit _) = bit_operators bit
own_operators (Expr-F.Enumerate p axis _ _ _ bit) = bit_operators bit
own_operators _ = 0

abbrev pub operators_step : Expr-F ℕ → ℕ
operators_step node = own_operators node + total (parts_of node)

-- how many operators an expression has
abbrev pub operators_in : Expr → ℕ
operators_in = fold-Expr ℕ operators_step

-- how many levels are open at once within an expression: each bracket opens one, up to the bracket
-- that closes it. Those of a cast are closed before its operand, so a chain of casts opens one.
abbrev pub levels_step : Expr-F ℕ → ℕ
levels_step (Expr-F.Casts casts operand) = max 1 operand.value
levels_step (Expr-F.ParallelCast p written operand) = max 1 operand.value
levels_step (Expr-F.Element n bracket index) = 1 + index.value
levels_step (Expr-F.Brackets p inner) = 1 + inner.value
levels_step (Expr-F.Call n arguments) = 1 + greatest arguments.items
levels_step (Expr-F.LeftIndex p indexes n) = 1 + greatest indexes.items
levels_step (Expr-F.Pcoord p axis) = 1 + axis.value
levels_step (Expr-F.PositionsOf p shape) = 1
levels_step (Expr-F.RankOf p shape) = 1
levels_step (Expr-F.DimOf p shape axis) = 1 + axis.value
levels_step (Expr-F.Scan p source axis _ _ _ _ _) = 1 + max source.value axis.value
levels_step (Expr-F.Enumerate p axis _ _ _ _) = 1 + axis.value
levels_step (Expr-F.Printf p text arguments) = 1 + greatest arguments.items
levels_step (Expr-F.GetChar p) = 1
levels_step node = greatest (parts_of node)

abbrev pub levels_in : Expr → ℕ
levels_in = fold-Expr ℕ levels_step

-- the expressions of a declared variable, of a declaration and of declarations
abbrev pub declarator_expressions : Declarator → List Expr
declarator_expressions d = optional d.length ++ initial_values d.initial

abbrev pub declaration_expressions : Declaration → List Expr
declaration_expressions d = concat (map declarator_expressions d.variables.items)

abbrev pub declared_expressions : List Declaration → List Expr
declared_expressions list = concat (map declaration_expressions list)

-- The greatest of such a number over whole expressions, where each statement adds its own to what
-- stands in it. The body of a function is no statement.
abbrev pub among : (Expr → ℕ) → List Expr → ℕ
among number es = greatest (map number es)

abbrev pub statement_step : (Expr → ℕ) → ℕ → Stmt-F ℕ ℕ → ℕ
statement_step number own (Stmt-F.Block block) = own + block
statement_step number own node = own + max (among number (expressions_of node)) (greatest (statements_of node))

abbrev pub block_step : (Expr → ℕ) → Block-F ℕ ℕ → ℕ
block_step number block = max (among number (declared_expressions block.declarations.items)) (greatest block.statements.items)

abbrev pub in_statement : (Expr → ℕ) → ℕ → Stmt → ℕ
in_statement number own = fold-Stmt ℕ ℕ (statement_step number own) (block_step number)

abbrev pub in_block : (Expr → ℕ) → ℕ → Block → ℕ
in_block number own block = max (among number (declared_expressions block.declarations.items)) (greatest (map (in_statement number own) block.statements.items))

unfoldable pub in_item : (Expr → ℕ) → ℕ → Item → ℕ
in_item number own (I.Shapes p shapes) = among number (concat (map (λ (s : ShapeDefinition). s.extents.items) shapes.items))
in_item number own (I.Variables d) = among number (declaration_expressions d)
in_item number own (I.Function f) = in_block number own f.body

-- each statement opens a level
abbrev pub levels_of : Tree → ℕ
levels_of tree = greatest (map (in_item levels_in 1) tree.items.items)

-- the operators of the expression that has most of them
abbrev pub operators_of : Tree → ℕ
operators_of tree = greatest (map (in_item operators_in 0) tree.items.items)

-- at most 100 levels are open at once, and no expression has more than 1,000 operators
pub record IsBounded (tree : Tree) : Type 0 where
  pub levels : levels_of tree ≤ 100
  pub operators : operators_of tree ≤ 1000
