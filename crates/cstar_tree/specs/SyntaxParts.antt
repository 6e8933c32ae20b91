-- The parts of a node of the syntax tree, in text order.
use Rattle.std.specs.Prelude.{ℕ, ◌+◌, List, [], ◌∷◌, ◌++◌, map, length, Option, Some, None}
use Rattle.cstar_tree.specs.declared.syntax.Declaration.{Declaration}
use Rattle.cstar_tree.specs.declared.syntax.Expr.{Expr}
use Rattle.cstar_tree.specs.declared.syntax.Expr.TheOpen.{Expr-F}
use Rattle.cstar_tree.specs.declared.syntax.Initializer.{Initializer}
use Rattle.cstar_tree.specs.declared.syntax.Stmt.{Stmt}
use Rattle.cstar_tree.specs.declared.syntax.Stmt.TheOpen.{Block-F, Stmt-F}
use Rattle.cstar_tree.specs.declared.syntax.Stmt.TheFolds.{fold-Stmt}
use Rattle.cstar_tree.specs.TypedParts.{optional, optional_box, total}

abbrev pub parts_of : {A : Type 0} → Expr-F A → List A
parts_of (Expr-F.Assign p op target value) = target.value ∷ value.value ∷ []
parts_of (Expr-F.Choice p test second third) = test.value ∷ second.value ∷ third.value ∷ []
parts_of (Expr-F.Binary p op left right) = left.value ∷ right.value ∷ []
parts_of (Expr-F.Prefix p op operand) = operand.value ∷ []
parts_of (Expr-F.Casts casts operand) = operand.value ∷ []
parts_of (Expr-F.ParallelCast p written operand) = operand.value ∷ []
parts_of (Expr-F.Postfix p op operand) = operand.value ∷ []
parts_of (Expr-F.Element n bracket index) = index.value ∷ []
parts_of (Expr-F.Brackets p inner) = inner.value ∷ []
parts_of (Expr-F.Call n arguments) = arguments.items
parts_of (Expr-F.LeftIndex p indexes n) = indexes.items
parts_of (Expr-F.Pcoord p axis) = axis.value ∷ []
parts_of (Expr-F.DimOf p shape axis) = axis.value ∷ []
parts_of (Expr-F.Scan p source axis _ _ _ _ _) = source.value ∷ axis.value ∷ []
parts_of (Expr-F.Enumerate p axis _ _ _ _) = axis.value ∷ []
parts_of (Expr-F.Printf p text arguments) = arguments.items
parts_of _ = []

-- the expressions that stand in a statement itself
abbrev pub expressions_of : {A B : Type 0} → Stmt-F A B → List Expr
expressions_of (Stmt-F.Expression p e) = e ∷ []
expressions_of (Stmt-F.If p test second third) = test ∷ []
expressions_of (Stmt-F.While p test body) = test ∷ []
expressions_of (Stmt-F.Do p body test) = test ∷ []
expressions_of (Stmt-F.For p first test step body) = optional first ++ optional test ++ optional step
expressions_of (Stmt-F.Return p value) = optional value
expressions_of (Stmt-F.Where p test second third) = test ∷ []
expressions_of _ = []

-- the statements in a statement that is no block
abbrev pub statements_of : {A B : Type 0} → Stmt-F A B → List A
statements_of (Stmt-F.If p test second third) = second.value ∷ optional_box third
statements_of (Stmt-F.While p test body) = body.value ∷ []
statements_of (Stmt-F.Do p body test) = body.value ∷ []
statements_of (Stmt-F.For p first test step body) = body.value ∷ []
statements_of (Stmt-F.With p shape body) = body.value ∷ []
statements_of (Stmt-F.Everywhere p body) = body.value ∷ []
statements_of (Stmt-F.Where p test second third) = second.value ∷ optional_box third
statements_of _ = []

abbrev pub initial_values : Option Initializer → List Expr
initial_values None = []
initial_values (Some i) = i.value ∷ []

-- how many variables the blocks of a statement declare
abbrev pub declared_in : List Declaration → ℕ
declared_in list = total (map (λ (d : Declaration). length d.variables.items) list)

abbrev pub locals_step : Stmt-F ℕ ℕ → ℕ
locals_step (Stmt-F.Block block) = block
locals_step node = total (statements_of node)

abbrev pub block_locals_step : Block-F ℕ ℕ → ℕ
block_locals_step block = declared_in block.declarations.items + total block.statements.items

abbrev pub locals_in : Stmt → ℕ
locals_in = fold-Stmt ℕ ℕ locals_step block_locals_step
