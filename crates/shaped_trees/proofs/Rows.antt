-- Lists as they stand in nodes: what is said of the row of a node is said of each thing of its list.
use Rattle.std.proofs.Common.{◌≡◌, ℕ, ◌+◌, List, [], ◌∷◌, length, Option, Vec, sym, subst}
use Rattle.std.specs.declared.alloc.Global.{Global}
use Rattle.std.specs.List.{All}
use Rattle.std.proofs.lemmas.List.Elements.{All-nil, All-cons, All-head, All-tail}
use mathlib.Core.Former.{Count}
use Rattle.cstar_tree.specs.declared.syntax.Block.{Block}
use Rattle.cstar_tree.specs.declared.syntax.Expr.{Expr, Row_of-Expr, end_of-Expr, more_of-Expr, items-the_row-Expr}
use Rattle.cstar_tree.specs.declared.syntax.Expr as E
use Rattle.cstar_tree.specs.declared.syntax.Stmt.{Stmt, Row_of-Stmt, end_of-Stmt, more_of-Stmt, items-the_row-Stmt, items_hidden-the_row-Stmt-0}
use Rattle.cstar_tree.specs.declared.syntax.Stmt as S
use Rattle.cstar_tree.specs.declared.typed.Instance.{Instance}
use Rattle.cstar_tree.specs.declared.typed.LocalVar.{LocalVar}
use Rattle.cstar_tree.specs.declared.typed.TExpr.{TExpr, Row_of-TExpr, end_of-TExpr, more_of-TExpr, items-the_row-TExpr}
use Rattle.cstar_tree.specs.declared.typed.TExpr as T
use Rattle.cstar_tree.specs.declared.typed.TStmt.{TStmt, Row_of-TStmt, end_of-TStmt, more_of-TStmt, items-the_row-TStmt, items_hidden-the_row-TStmt-0}
use Rattle.cstar_tree.specs.declared.typed.TStmt as R
use Rattle.cstar_tree.specs.declared.typed.Typed.{Typed}
use Rattle.cstar_tree.specs.declared.typed.VarInfo.{VarInfo}
use Rattle.code_lengths.specs.Shaped.{AreShaped, IsShaped}
use Rattle.code_lengths.specs.ShapedStatements.{AreShapedLocals, AreShapedStatements, IsShapedStatement}
use Rattle.code_lengths.specs.Lowerable.{AreLowerable, IsLowerable}
use Rattle.code_lengths.specs.LowerableStatements.{AreLowerableStatements, IsLowerableLocal, IsLowerableStatement}
use Rattle.shaped_trees.specs.Casts.{BlockNamesShapes, ExpressionNamesShapes, ExpressionsNameShapes, StatementNamesShapes, StatementsNameShapes}
use Rattle.code_lengths.specs.Naming.{AllNameVariables, NamesVariables}
use Rattle.code_lengths.specs.NamingStatements.{InitialsNameVariables, StatementNamesVariables, StatementsNameVariables, behind}

-- ---- typed expressions

abbrev typed_row : TExpr → (n : Count) × Row_of-TExpr n
typed_row (T.Call' _ _ _ row) = (_, row)
typed_row (T.LeftIndex' _ _ _ row _ _) = (_, row)
typed_row (T.Printf' _ _ _ row) = (_, row)
typed_row _ = (_, end_of-TExpr)

row_shaped : (n : Count) (row : Row_of-TExpr n) → All IsShaped (items-the_row-TExpr n row) → AreShaped row
unfolding AreShaped
row_shaped n end_of-TExpr all = tt
row_shaped n (more_of-TExpr e rest) all = (All-head IsShaped e _ all, row_shaped _ rest (All-tail IsShaped e _ all))

pub list_shaped : (node : TExpr) (list : Vec TExpr Global) → items-the_row-TExpr (typed_row node).0 (typed_row node).1 ≡ list.items → All IsShaped list.items → AreShaped (typed_row node).1
list_shaped node list same all = row_shaped (typed_row node).0 (typed_row node).1 (subst (All IsShaped) (sym same) all)

row_lowerable : (t : Typed) (n : Count) (row : Row_of-TExpr n) → All (IsLowerable t) (items-the_row-TExpr n row) → AreLowerable t row
unfolding AreLowerable
row_lowerable t n end_of-TExpr all = tt
row_lowerable t n (more_of-TExpr e rest) all = (All-head (IsLowerable t) e _ all, row_lowerable t _ rest (All-tail (IsLowerable t) e _ all))

pub list_lowerable : (t : Typed) (node : TExpr) (list : Vec TExpr Global) → items-the_row-TExpr (typed_row node).0 (typed_row node).1 ≡ list.items → All (IsLowerable t) list.items → AreLowerable t (typed_row node).1
list_lowerable t node list same all = row_lowerable t (typed_row node).0 (typed_row node).1 (subst (All (IsLowerable t)) (sym same) all)

row_names_variables : (t : Typed) (i : Instance) (n : ℕ) (k : Count) (row : Row_of-TExpr k) → All (NamesVariables t i n) (items-the_row-TExpr k row) → AllNameVariables t i n row
unfolding AllNameVariables
row_names_variables t i n k end_of-TExpr all = tt
row_names_variables t i n k (more_of-TExpr e rest) all =
    (All-head (NamesVariables t i n) e _ all, row_names_variables t i n _ rest (All-tail (NamesVariables t i n) e _ all))

pub list_names_variables : (t : Typed) (i : Instance) (n : ℕ) (node : TExpr) (list : Vec TExpr Global) → items-the_row-TExpr (typed_row node).0 (typed_row node).1 ≡ list.items →
    All (NamesVariables t i n) list.items → AllNameVariables t i n (typed_row node).1
list_names_variables t i n node list same all = row_names_variables t i n (typed_row node).0 (typed_row node).1 (subst (All (NamesVariables t i n)) (sym same) all)

-- ---- expressions of the text

abbrev text_row : Expr → (n : Count) × Row_of-Expr n
text_row (E.Call' _ _ row) = (_, row)
text_row (E.LeftIndex' _ _ row _) = (_, row)
text_row (E.Printf' _ _ _ row) = (_, row)
text_row _ = (_, end_of-Expr)

row_names : (n : Count) (row : Row_of-Expr n) → All ExpressionNamesShapes (items-the_row-Expr n row) → ExpressionsNameShapes row
unfolding ExpressionsNameShapes
row_names n end_of-Expr all = tt
row_names n (more_of-Expr e rest) all = (All-head ExpressionNamesShapes e _ all, row_names _ rest (All-tail ExpressionNamesShapes e _ all))

each_names : (n : Count) (row : Row_of-Expr n) → ExpressionsNameShapes row → All ExpressionNamesShapes (items-the_row-Expr n row)
unfolding ExpressionsNameShapes
each_names n end_of-Expr names = All-nil ExpressionNamesShapes
each_names n (more_of-Expr e rest) names = All-cons ExpressionNamesShapes e _ names.0 (each_names _ rest names.1)

pub list_names : (node : Expr) (list : Vec Expr Global) → items-the_row-Expr (text_row node).0 (text_row node).1 ≡ list.items → All ExpressionNamesShapes list.items → ExpressionsNameShapes (text_row node).1
list_names node list same all = row_names (text_row node).0 (text_row node).1 (subst (All ExpressionNamesShapes) (sym same) all)

pub names_each : (node : Expr) (list : Vec Expr Global) → items-the_row-Expr (text_row node).0 (text_row node).1 ≡ list.items → ExpressionsNameShapes (text_row node).1 → All ExpressionNamesShapes list.items
names_each node list same names = subst (All ExpressionNamesShapes) same (each_names (text_row node).0 (text_row node).1 names)

-- ---- typed blocks

abbrev typed_statements : TStmt → (n : Count) × Row_of-TStmt n
typed_statements (R.Block' _ _ row) = (_, row)
typed_statements _ = (_, end_of-TStmt)

statements_shaped : (n : Count) (row : Row_of-TStmt n) → All IsShapedStatement (items-the_row-TStmt n row) → AreShapedStatements row
unfolding AreShapedStatements
statements_shaped n end_of-TStmt all = tt
statements_shaped n (more_of-TStmt s rest) all = (All-head IsShapedStatement s _ all, statements_shaped _ rest (All-tail IsShapedStatement s _ all))

pub block_shaped : (locals : Vec LocalVar Global) (statements : Vec TStmt Global) → AreShapedLocals locals.items → All IsShapedStatement statements.items → IsShapedStatement (R.Block locals statements)
unfolding IsShapedStatement
block_shaped locals statements declared all =
    let row = typed_statements (R.Block locals statements) in
    (declared, statements_shaped row.0 row.1 (subst (All IsShapedStatement) (sym (items_hidden-the_row-TStmt-0 statements)) all))

statements_lowerable : (t : Typed) (result : Option VarInfo) (n : Count) (row : Row_of-TStmt n) → All (IsLowerableStatement t result) (items-the_row-TStmt n row) → AreLowerableStatements t result row
unfolding AreLowerableStatements
statements_lowerable t result n end_of-TStmt all = tt
statements_lowerable t result n (more_of-TStmt s rest) all =
    (All-head (IsLowerableStatement t result) s _ all, statements_lowerable t result _ rest (All-tail (IsLowerableStatement t result) s _ all))

pub block_lowerable : (t : Typed) (result : Option VarInfo) (locals : Vec LocalVar Global) (statements : Vec TStmt Global) →
    All (IsLowerableLocal t) locals.items → All (IsLowerableStatement t result) statements.items → IsLowerableStatement t result (R.Block locals statements)
unfolding IsLowerableStatement
block_lowerable t result locals statements declared all =
    let row = typed_statements (R.Block locals statements) in
    (declared, statements_lowerable t result row.0 row.1 (subst (All (IsLowerableStatement t result)) (sym (items_hidden-the_row-TStmt-0 statements)) all))

-- statements one behind the other, the first where so many variables are declared
unfoldable pub EachNamesVariables : Typed → Instance → ℕ → List TStmt → Type 0
EachNamesVariables t i n [] = Unit {0}
EachNamesVariables t i n (s ∷ ss) = StatementNamesVariables t i n s × EachNamesVariables t i (behind n s) ss

statements_name_variables : (t : Typed) (i : Instance) (n : ℕ) (k : Count) (row : Row_of-TStmt k) → EachNamesVariables t i n (items-the_row-TStmt k row) → StatementsNameVariables t i n row
unfolding StatementsNameVariables EachNamesVariables
statements_name_variables t i n k end_of-TStmt all = tt
statements_name_variables t i n k (more_of-TStmt s rest) all = (all.0, statements_name_variables t i (behind n s) _ rest all.1)

pub block_names_variables : (t : Typed) (i : Instance) (n : ℕ) (locals : Vec LocalVar Global) (statements : Vec TStmt Global) →
    InitialsNameVariables t i n locals.items → EachNamesVariables t i (n + length locals.items) statements.items → StatementNamesVariables t i n (R.Block locals statements)
unfolding StatementNamesVariables
block_names_variables t i n locals statements declared all =
    let row = typed_statements (R.Block locals statements) in
    (declared, statements_name_variables t i (n + length locals.items) row.0 row.1 (subst (EachNamesVariables t i (n + length locals.items)) (sym (items_hidden-the_row-TStmt-0 statements)) all))

-- ---- blocks of the text

abbrev text_statements : Stmt → (n : Count) × Row_of-Stmt n
text_statements (S.Block' _ _ _ row) = (_, row)
text_statements _ = (_, end_of-Stmt)

statements_name : (n : Count) (row : Row_of-Stmt n) → All StatementNamesShapes (items-the_row-Stmt n row) → StatementsNameShapes row
unfolding StatementsNameShapes
statements_name n end_of-Stmt all = tt
statements_name n (more_of-Stmt s rest) all = (All-head StatementNamesShapes s _ all, statements_name _ rest (All-tail StatementNamesShapes s _ all))

each_statement_names : (n : Count) (row : Row_of-Stmt n) → StatementsNameShapes row → All StatementNamesShapes (items-the_row-Stmt n row)
unfolding StatementsNameShapes
each_statement_names n end_of-Stmt names = All-nil StatementNamesShapes
each_statement_names n (more_of-Stmt s rest) names = All-cons StatementNamesShapes s _ names.0 (each_statement_names _ rest names.1)

-- a block as a statement, and by itself
pub statement_of_block : (block : Block) → BlockNamesShapes block → StatementNamesShapes (S.Block block)
unfolding StatementNamesShapes BlockNamesShapes
statement_of_block block names =
    let row = text_statements (S.Block block) in
    (names.0, statements_name row.0 row.1 (subst (All StatementNamesShapes) (sym (items_hidden-the_row-Stmt-0 block.statements)) names.1))

pub block_of_statement : (block : Block) → StatementNamesShapes (S.Block block) → BlockNamesShapes block
unfolding StatementNamesShapes BlockNamesShapes
block_of_statement block names =
    let row = text_statements (S.Block block) in
    (names.0, subst (All StatementNamesShapes) (items_hidden-the_row-Stmt-0 block.statements) (each_statement_names row.0 row.1 names.1))
