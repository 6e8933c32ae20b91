-- The parts of a node of the typed tree, in text order.
use Rattle.std.specs.Prelude.{ℕ, ◌+◌, List, [], ◌∷◌, ◌++◌, map, Option, Some, None, Box}
use Rattle.std.specs.declared.alloc.Global.{Global}
use Rattle.cstar_tree.specs.declared.typed.LocalVar.{LocalVar}
use Rattle.cstar_tree.specs.declared.typed.TExpr.{TExpr}
use Rattle.cstar_tree.specs.declared.typed.TExpr.TheOpen.{TExpr-F}
use Rattle.cstar_tree.specs.declared.typed.TExpr.TheFolds.{fold-TExpr}
use Rattle.cstar_tree.specs.declared.typed.TStmt.{TStmt}
use Rattle.cstar_tree.specs.declared.typed.TStmt.TheOpen.{TStmt-F}
use Rattle.cstar_tree.specs.declared.typed.TStmt.TheFolds.{fold-TStmt}
use Rattle.cstar_tree.specs.declared.typed.ValueType.{ValueType}

abbrev pub parts_of : {A : Type 0} → TExpr-F A → List A
parts_of (TExpr-F.Assign ty p op target value) = target.value ∷ value.value ∷ []
parts_of (TExpr-F.Choice ty test second third) = test.value ∷ second.value ∷ third.value ∷ []
parts_of (TExpr-F.LogicalOr ty left right) = left.value ∷ right.value ∷ []
parts_of (TExpr-F.LogicalAnd ty left right) = left.value ∷ right.value ∷ []
parts_of (TExpr-F.Binary ty p op left right) = left.value ∷ right.value ∷ []
parts_of (TExpr-F.Unary ty op operand) = operand.value ∷ []
parts_of (TExpr-F.Step ty op order target) = target.value ∷ []
parts_of (TExpr-F.Reduce ty op operand) = operand.value ∷ []
parts_of (TExpr-F.Casts ty elems operand) = operand.value ∷ []
parts_of (TExpr-F.ParallelCast ty operand) = operand.value ∷ []
parts_of (TExpr-F.Convert ty operand) = operand.value ∷ []
parts_of (TExpr-F.Promote ty operand) = operand.value ∷ []
parts_of (TExpr-F.Element ty p array index) = index.value ∷ []
parts_of (TExpr-F.Brackets ty inner) = inner.value ∷ []
parts_of (TExpr-F.Call ty instance arguments) = arguments.items
parts_of (TExpr-F.LeftIndex ty p indexes variable of) = indexes.items
parts_of (TExpr-F.Scan ty source _ _ _ _ _ _) = source.value ∷ []
parts_of (TExpr-F.Printf ty pieces arguments) = arguments.items
parts_of _ = []

-- the type of a node's value
abbrev pub node_type : {A : Type 0} → TExpr-F A → ValueType
node_type (TExpr-F.Assign ty _ _ _ _) = ty
node_type (TExpr-F.Choice ty _ _ _) = ty
node_type (TExpr-F.LogicalOr ty _ _) = ty
node_type (TExpr-F.LogicalAnd ty _ _) = ty
node_type (TExpr-F.Binary ty _ _ _ _) = ty
node_type (TExpr-F.Unary ty _ _) = ty
node_type (TExpr-F.Step ty _ _ _) = ty
node_type (TExpr-F.Reduce ty _ _) = ty
node_type (TExpr-F.Casts ty _ _) = ty
node_type (TExpr-F.ParallelCast ty _) = ty
node_type (TExpr-F.Convert ty _) = ty
node_type (TExpr-F.Promote ty _) = ty
node_type (TExpr-F.Variable ty _) = ty
node_type (TExpr-F.Element ty _ _ _) = ty
node_type (TExpr-F.Number ty _) = ty
node_type (TExpr-F.Dot ty _) = ty
node_type (TExpr-F.Brackets ty _) = ty
node_type (TExpr-F.Call ty _ _) = ty
node_type (TExpr-F.LeftIndex ty _ _ _ _) = ty
node_type (TExpr-F.Pcoord ty _) = ty
node_type (TExpr-F.PositionsOf ty _ _) = ty
node_type (TExpr-F.RankOf ty _ _) = ty
node_type (TExpr-F.DimOf ty _ _ _) = ty
node_type (TExpr-F.Scan ty _ _ _ _ _ _ _) = ty
node_type (TExpr-F.Enumerate ty _ _ _ _ _) = ty
node_type (TExpr-F.Printf ty _ _) = ty
node_type (TExpr-F.GetChar ty) = ty

abbrev pub optional : {A : Type 0} → Option A → List A
optional None = []
optional (Some a) = a ∷ []

abbrev pub optional_box : {A : Type 0} → Option (Box A Global) → List A
optional_box None = []
optional_box (Some a) = a.value ∷ []

-- lists, one behind the other
unfoldable pub concat : {A : Type 0} → List (List A) → List A
concat [] = []
concat (xs ∷ rest) = xs ++ concat rest

unfoldable pub total : List ℕ → ℕ
total [] = 0
total (n ∷ ns) = n + total ns

-- the expressions of a statement: conditions, values and initialisers
abbrev pub expressions_of : {A : Type 0} → TStmt-F A → List TExpr
expressions_of (TStmt-F.Block locals statements) = concat (map (λ (l : LocalVar). optional l.initial) locals.items)
expressions_of (TStmt-F.Expression e) = e ∷ []
expressions_of (TStmt-F.If test second third) = test ∷ []
expressions_of (TStmt-F.While test body) = test ∷ []
expressions_of (TStmt-F.Do body test) = test ∷ []
expressions_of (TStmt-F.For first test step body) = optional first ++ optional test ++ optional step
expressions_of (TStmt-F.Return value) = optional value
expressions_of (TStmt-F.Where shape test second third) = test ∷ []
expressions_of _ = []

-- the statements in a statement
abbrev pub statements_of : {A : Type 0} → TStmt-F A → List A
statements_of (TStmt-F.Block locals statements) = statements.items
statements_of (TStmt-F.If test second third) = second.value ∷ optional_box third
statements_of (TStmt-F.While test body) = body.value ∷ []
statements_of (TStmt-F.Do body test) = body.value ∷ []
statements_of (TStmt-F.For first test step body) = body.value ∷ []
statements_of (TStmt-F.With shape body) = body.value ∷ []
statements_of (TStmt-F.Everywhere shape body) = body.value ∷ []
statements_of (TStmt-F.Where shape test second third) = second.value ∷ optional_box third
statements_of _ = []

-- the instances that an expression calls, and those that a statement does
abbrev pub call_step : TExpr-F (List ℕ) → List ℕ
call_step (TExpr-F.Call ty instance arguments) = concat arguments.items ++ instance ∷ []
call_step node = concat (parts_of node)

abbrev pub calls_in : TExpr → List ℕ
calls_in = fold-TExpr (List ℕ) call_step

abbrev pub statement_call_step : TStmt-F (List ℕ) → List ℕ
statement_call_step node = concat (map calls_in (expressions_of node)) ++ concat (statements_of node)

abbrev pub calls_within : TStmt → List ℕ
calls_within = fold-TStmt (List ℕ) statement_call_step
