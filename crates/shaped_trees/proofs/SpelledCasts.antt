-- In what the grammar spells each parallel cast names a shape.
use Rattle.std.proofs.Common.{ℕ, IfSome, List, [], Option}
use Rattle.std.specs.List.{All}
use Rattle.std.proofs.lemmas.List.Elements.{All-nil, All-cons, All-push}
use Rattle.cstar_base.specs.declared.operators.Place.{Place}
use Rattle.cstar_tree.specs.declared.token.Mark.{Mark}
use Rattle.cstar_tree.specs.declared.token.Token.{Token}
use Rattle.cstar_tree.specs.declared.token.Tokens.{Tokens}
use Rattle.cstar_tree.specs.declared.syntax.Block.{Block}
use Rattle.cstar_tree.specs.declared.syntax.Declaration.{Declaration}
use Rattle.cstar_tree.specs.declared.syntax.Declarator.{Declarator}
use Rattle.cstar_tree.specs.declared.syntax.Expr.{Expr, items_hidden-the_row-Expr-0}
use Rattle.cstar_tree.specs.declared.syntax.Expr as E
use Rattle.cstar_tree.specs.declared.syntax.Function.{Function}
use Rattle.cstar_tree.specs.declared.syntax.Initializer.{Initializer}
use Rattle.cstar_tree.specs.declared.syntax.Item.{Item}
use Rattle.cstar_tree.specs.declared.syntax.ShapeDefinition.{ShapeDefinition}
use Rattle.cstar_tree.specs.declared.syntax.Stmt.{Stmt}
use Rattle.cstar_tree.specs.declared.syntax.Tree.{Tree}
use Rattle.cstar_tree.specs.Declarations.{IsLength, IsInitial, IsDeclarator, AreDeclarators, IsDeclaration, AreDeclarations}
use Rattle.cstar_tree.specs.Declarations as D
use Rattle.cstar_tree.specs.Expressions.{IsExpr, GoesOn, IsRest, AreArguments, IsIndex, AreIndexes}
use Rattle.cstar_tree.specs.Expressions as X
use Rattle.cstar_tree.specs.Items.{IsShapeDefinition, AreShapeDefinitions, IsFunction, IsItem, AreItems, IsTree}
use Rattle.cstar_tree.specs.Items as Z
use Rattle.cstar_tree.specs.Statements.{IsPart, IsTest, IsStmt, AreStmts, IsBlock}
use Rattle.cstar_tree.specs.Statements as Y
use Rattle.shaped_trees.specs.Casts.{BlockNamesShapes, DeclarationNamesShapes, DeclaratorNamesShapes, ElseNamesShapes, ExpressionNamesShapes, ItemNamesShapes, NamesShapes, ShapeNamesShapes, StatementNamesShapes, StatementsNameShapes}
use Rattle.shaped_trees.proofs.Rows.{list_names, statement_of_block}

module _ (tokens : List Token) where
  mutual
    unfolding ExpressionNamesShapes

    pub expression : {from to : ℕ} {e : Expr} → IsExpr tokens from e to → ExpressionNamesShapes e
    expression (X.assign target value a b c d) = (expression a, expression d)
    expression (X.choice test second third a b c d e f g) = (expression a, expression d, expression f)
    expression (X.binary left right a b c d e) = (expression a, expression d)
    expression (X.prefix operand a b c) = expression b
    expression (X.casts chain operand a b c d e) = expression c
    expression (X.parallel_cast operand a b has d e f) = (has, expression e)
    expression (X.postfix operand a b c) = expression a
    expression (X.name a) = tt
    expression (X.element inner a b) = index b
    expression (X.number a) = tt
    expression (X.dot a) = tt
    expression (X.brackets inner a b c) = expression b
    expression (X.call {n = n} list a b) = list_names (E.Call n list) list (items_hidden-the_row-Expr-0 list) (arguments b)
    expression (X.left_index {p = p} {n = n} list a b) = list_names (E.LeftIndex p list n) list (items_hidden-the_row-Expr-0 list) (indexes a)
    expression (X.pcoord axis a b c d) = expression c
    expression (X.positions_of a b) = tt
    expression (X.rank_of a b) = tt
    expression (X.dim_of axis a b c d e f) = expression e
    expression (X.scan source axis a b c d e f) = (expression c, expression e)
    expression (X.enumerate axis a b c d) = expression c
    expression (X.printf {p = p} {text = text} list a b c d) = list_names (E.Printf p text list) list (items_hidden-the_row-Expr-0 list) (rest d (All-nil ExpressionNamesShapes))
    expression (X.getchar a b c) = tt

    pub goes_on : {from to : ℕ} {before list : List Expr} → GoesOn tokens from before list to → All ExpressionNamesShapes before → All ExpressionNamesShapes list
    goes_on X.no_more = λ w. w
    goes_on (X.more {list = list} {e = e} a b c) = λ w. All-push ExpressionNamesShapes list e (goes_on a w) (expression c)

    pub rest : {from to : ℕ} {before list : List Expr} → IsRest tokens from before list to → All ExpressionNamesShapes before → All ExpressionNamesShapes list
    rest (X.rest a b) = goes_on a

    pub arguments : {from to : ℕ} {list : List Expr} → AreArguments tokens from list to → All ExpressionNamesShapes list
    arguments (X.no_arguments a b) = All-nil ExpressionNamesShapes
    arguments (X.some_arguments {first = first} a b c) = rest c (All-cons ExpressionNamesShapes first [] (expression b) (All-nil ExpressionNamesShapes))

    pub index : {from to : ℕ} {p : Place} {e : Expr} → IsIndex tokens from p e to → ExpressionNamesShapes e
    index (X.index_is a b c) = expression b

    pub indexes : {from to : ℕ} {p : Place} {list : List Expr} → AreIndexes tokens from p list to → All ExpressionNamesShapes list
    indexes (X.first_index {e = e} a) = All-cons ExpressionNamesShapes e [] (index a) (All-nil ExpressionNamesShapes)
    indexes (X.next_index {list = list} {e = e} a b) = All-push ExpressionNamesShapes list e (indexes a) (index b)

  length_of : {from to : ℕ} {length : Option Expr} → IsLength tokens from length to → IfSome length ExpressionNamesShapes
  length_of D.no_length = tt
  length_of (D.length_is a b c) = expression b

  initial : {from to : ℕ} {initial : Option Initializer} → IsInitial tokens from initial to → IfSome initial (λ (i : Initializer). ExpressionNamesShapes i.value)
  initial D.no_initial = tt
  initial (D.initial_is a b) = expression b

  declarator : {from to : ℕ} {d : Declarator} → IsDeclarator tokens from d to → DeclaratorNamesShapes d
  unfolding DeclaratorNamesShapes
  declarator (D.declarator a b c) = (length_of b, initial c)

  declarators : {from to : ℕ} {list : List Declarator} → AreDeclarators tokens from list to → All DeclaratorNamesShapes list
  declarators (D.first_name {d = d} a) = All-cons DeclaratorNamesShapes d [] (declarator a) (All-nil DeclaratorNamesShapes)
  declarators (D.next_name {list = list} {d = d} a b c) = All-push DeclaratorNamesShapes list d (declarators a) (declarator c)

  declaration : {from to : ℕ} {d : Declaration} → IsDeclaration tokens from d to → DeclarationNamesShapes d
  unfolding DeclarationNamesShapes
  declaration (D.declaration a b c) = declarators b

  declarations : {from to : ℕ} {list : List Declaration} → AreDeclarations tokens from list to → All DeclarationNamesShapes list
  declarations D.no_declaration = All-nil DeclarationNamesShapes
  declarations (D.one_more {list = list} {d = d} a b) = All-push DeclarationNamesShapes list d (declarations a) (declaration b)

  part : {from to : ℕ} {mark : Mark} {e : Option Expr} → IsPart tokens from e mark to → IfSome e ExpressionNamesShapes
  part (Y.no_part a) = tt
  part (Y.part a b) = expression a

  test : {from to : ℕ} {e : Expr} → IsTest tokens from e to → ExpressionNamesShapes e
  test (Y.test a b c) = expression b

  mutual
    unfolding StatementNamesShapes StatementsNameShapes ElseNamesShapes BlockNamesShapes

    pub statement : {from to : ℕ} {s : Stmt} → IsStmt tokens from s to → StatementNamesShapes s
    statement (Y.block_is {block = it} a) = statement_of_block it (block a)
    statement (Y.expression a b) = part b
    statement (Y.empty a) = tt
    statement (Y.if_alone second a b c d) = (test b, statement c, tt)
    statement (Y.if_else second third a b c d e) = (test b, statement c, statement e)
    statement (Y.where_alone second a b c d) = (test b, statement c, tt)
    statement (Y.where_else second third a b c d e) = (test b, statement c, statement e)
    statement (Y.while body a b c) = (test b, statement c)
    statement (Y.do_while body a b c d e) = (statement b, test d)
    statement (Y.for body a b c d e f) = (part c, part d, part e, statement f)
    statement (Y.break a b) = tt
    statement (Y.continue a b) = tt
    statement (Y.return a b) = part b
    statement (Y.with body a b c) = statement c
    statement (Y.everywhere body a b) = statement b

    pub statements : {from to : ℕ} {list : List Stmt} → AreStmts tokens from list to → All StatementNamesShapes list
    statements Y.no_stmt = All-nil StatementNamesShapes
    statements (Y.one_more {list = list} {s = s} a b) = All-push StatementNamesShapes list s (statements a) (statement b)

    pub block : {from to : ℕ} {block : Block} → IsBlock tokens from block to → BlockNamesShapes block
    block (Y.block it a b c d) = (declarations b, statements c)

  shape : {from to : ℕ} {s : ShapeDefinition} → IsShapeDefinition tokens from s to → ShapeNamesShapes s
  unfolding ShapeNamesShapes
  shape (Z.shape_definition a b) = indexes a

  shapes : {from to : ℕ} {list : List ShapeDefinition} → AreShapeDefinitions tokens from list to → All ShapeNamesShapes list
  shapes (Z.first_shape {s = s} a) = All-cons ShapeNamesShapes s [] (shape a) (All-nil ShapeNamesShapes)
  shapes (Z.next_shape {list = list} {s = s} a b c) = All-push ShapeNamesShapes list s (shapes a) (shape c)

  function : {from to : ℕ} {f : Function} → IsFunction tokens from f to → BlockNamesShapes f.body
  function (Z.function f a b c d e g h) = block h

  item : {from to : ℕ} {i : Item} → IsItem tokens from i to → ItemNamesShapes i
  unfolding ItemNamesShapes
  item (Z.shapes a b c) = shapes b
  item (Z.variables a) = declaration a
  item (Z.function_is a) = function a

  items : {from to : ℕ} {list : List Item} → AreItems tokens from list to → All ItemNamesShapes list
  items Z.no_item = All-nil ItemNamesShapes
  items (Z.one_more {list = list} {item = it} a b) = All-push ItemNamesShapes list it (items a) (item b)

pub spelled : (tokens : Tokens) (tree : Tree) → IsTree tokens tree → NamesShapes tree
spelled tokens tree is = items tokens.list.items is.items
