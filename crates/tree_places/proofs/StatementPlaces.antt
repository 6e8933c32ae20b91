-- The same of statements and items.
use Rattle.std.proofs.Common.{ℕ, ◌≤◌, List, Option, IfSome, arith, subst, sym}
use mathlib.Core.Former.{Count}
use Rattle.cstar_base.specs.declared.operators.Place.{Place}
use Rattle.cstar_tree.specs.declared.token.Kind.{Kind}
use Rattle.cstar_tree.specs.declared.token.Mark.{Mark}
use Rattle.cstar_tree.specs.declared.token.Token.{Token}
use Rattle.cstar_tree.specs.declared.syntax.Block.{Block}
use Rattle.cstar_tree.specs.declared.syntax.Declaration.{Declaration}
use Rattle.cstar_tree.specs.declared.syntax.Expr.{Expr}
use Rattle.cstar_tree.specs.declared.syntax.Function.{Function}
use Rattle.cstar_tree.specs.declared.syntax.Item.{Item}
use Rattle.cstar_tree.specs.declared.syntax.Parameter.{Parameter}
use Rattle.cstar_tree.specs.declared.syntax.ResultType.{ResultType}
use Rattle.cstar_tree.specs.declared.syntax.ShapeDefinition.{ShapeDefinition}
use Rattle.cstar_tree.specs.declared.syntax.ShapeRef.{ShapeRef}
use Rattle.cstar_tree.specs.declared.syntax.Stmt.{Stmt, Row_of-Stmt, end_of-Stmt, more_of-Stmt, items-the_row-Stmt, items_hidden-the_row-Stmt-0}
use Rattle.cstar_tree.specs.declared.syntax.Stmt as S
use Rattle.cstar_tree.specs.declared.syntax.TypeName.{TypeName}
use Rattle.cstar_tree.specs.Positions.{Stands}
use Rattle.cstar_tree.specs.Declarations.{IsDeclaration, AreDeclarations}
use Rattle.cstar_tree.specs.Expressions.{IsExpr, AreIndexes}
use Rattle.cstar_tree.specs.Items.{IsShapeDefinition, AreShapeDefinitions, IsParameter, AreNamed, AreParameters, IsResult, IsFunction, IsItem}
use Rattle.cstar_tree.specs.Items as Z
use Rattle.cstar_tree.specs.Options.{IsBracketedShape}
use Rattle.cstar_tree.specs.Statements.{IsPart, IsTest, IsStmt, AreStmts, IsBlock}
use Rattle.cstar_tree.specs.Statements as Y
use Rattle.cstar_tree.specs.Types.{IsType}
use Rattle.tree_places.specs.Within.{Each, NameWithin, ShapeWithin, TypeWithin, ExpressionWithin, DeclarationWithin}
use Rattle.tree_places.specs.Statements.{StatementWithin, StatementsWithin, ElseWithin, BlockWithin, ResultWithin, ParameterWithin, FunctionWithin, ShapeDefinitionWithin, ItemWithin}
use Rattle.tree_places.proofs.Ending.{token_ends, type_ends, bracketed_ends, expression_ends, indexes_ends, declarations_ends, part_ends, test_ends, statement_ends, statements_ends, block_ends, shape_definition_ends, shape_definitions_ends, parameter_ends, named_ends, parameters_ends, result_ends}
use Rattle.tree_places.proofs.ExpressionPlaces.{HoldsOfTokens, each_more}
use Rattle.tree_places.proofs.ExpressionPlaces as places

-- the row that the statements of a block stand in
abbrev row_of : Stmt → (n : Count) × Row_of-Stmt n
row_of (S.Block' _ _ _ row) = (_, row)
row_of _ = (_, end_of-Stmt)

row_by : (P : Place → Type 0) (n : Count) (row : Row_of-Stmt n) → Each (StatementWithin P) (items-the_row-Stmt n row) → StatementsWithin P row
unfolding Each StatementsWithin
row_by P n end_of-Stmt w = tt
row_by P n (more_of-Stmt s rest) w = (w.0, row_by P _ rest w.1)

statements_within : (P : Place → Type 0) (block : Block) → Each (StatementWithin P) block.statements.items → StatementsWithin P (row_of (S.Block block)).1
statements_within P block w =
    let row = row_of (S.Block block) in
    row_by P row.0 row.1 (subst (Each (StatementWithin P)) (sym (items_hidden-the_row-Stmt-0 block.statements)) w)

module _ (P : Place → Type 0) (tokens : List Token) (start stop : ℕ) (holds : HoldsOfTokens P tokens start stop) where
  stands : {from to : ℕ} {kind : Kind} {p : Place} → start ≤ from → to ≤ stop → Stands tokens from kind p to → P p
  stands l h s = places.stands P tokens start stop holds l h s

  expression : {from to : ℕ} {e : Expr} → start ≤ from → to ≤ stop → IsExpr tokens from e to → ExpressionWithin P e
  expression l h x = places.expression P tokens start stop holds l h x

  type : {from to : ℕ} {t : TypeName} → start ≤ from → to ≤ stop → IsType tokens from t to → TypeWithin P t
  type l h x = places.type P tokens start stop holds l h x

  bracketed : {from to : ℕ} {shape : ShapeRef} → start ≤ from → to ≤ stop → IsBracketedShape tokens from shape to → ShapeWithin P shape
  bracketed l h x = places.bracketed P tokens start stop holds l h x

  indexes : {from to : ℕ} {p : Place} {list : List Expr} → start ≤ from → to ≤ stop → AreIndexes tokens from p list to → P p × Each (ExpressionWithin P) list
  indexes l h x = places.indexes P tokens start stop holds l h x

  declaration : {from to : ℕ} {d : Declaration} → start ≤ from → to ≤ stop → IsDeclaration tokens from d to → DeclarationWithin P d
  declaration l h x = places.declaration P tokens start stop holds l h x

  declarations : {from to : ℕ} {list : List Declaration} → start ≤ from → to ≤ stop → AreDeclarations tokens from list to → Each (DeclarationWithin P) list
  declarations l h x = places.declarations P tokens start stop holds l h x

  pub part : {from to : ℕ} {mark : Mark} {e : Option Expr} → start ≤ from → to ≤ stop → IsPart tokens from e mark to → IfSome e (ExpressionWithin P)
  part l h (Y.no_part a) = tt
  part l h (Y.part a b) = let fa = expression_ends a in let fb = token_ends b in expression l (omega arith) a

  pub test : {from to : ℕ} {e : Expr} → start ≤ from → to ≤ stop → IsTest tokens from e to → ExpressionWithin P e
  test l h (Y.test a b c) = let fa = token_ends a in let fb = expression_ends b in let fc = token_ends c in expression (omega arith) (omega arith) b

  mutual
    unfolding StatementWithin StatementsWithin ElseWithin BlockWithin Each

    pub statement : {from to : ℕ} {s : Stmt} → start ≤ from → to ≤ stop → IsStmt tokens from s to → StatementWithin P s
    statement l h (Y.block_is {block = it} a) = let w = block l h a in (w.0, w.1, statements_within P it w.2)
    statement l h (Y.expression a b) = let fb = part_ends b in (holds _ _ l (omega arith) a, part l h b)
    statement l h (Y.empty a) = stands l h a
    statement l h (Y.if_alone second a b c d) = let fa = token_ends a in let fb = test_ends b in let fc = statement_ends c in (stands l (omega arith) a, test (omega arith) (omega arith) b, statement (omega arith) h c, tt)
    statement l h (Y.if_else second third a b c d e) = let fa = token_ends a in let fb = test_ends b in let fc = statement_ends c in let fd = token_ends d in let fe = statement_ends e in (stands l (omega arith) a, test (omega arith) (omega arith) b, statement (omega arith) (omega arith) c, statement (omega arith) h e)
    statement l h (Y.where_alone second a b c d) = let fa = token_ends a in let fb = test_ends b in let fc = statement_ends c in (stands l (omega arith) a, test (omega arith) (omega arith) b, statement (omega arith) h c, tt)
    statement l h (Y.where_else second third a b c d e) = let fa = token_ends a in let fb = test_ends b in let fc = statement_ends c in let fd = token_ends d in let fe = statement_ends e in (stands l (omega arith) a, test (omega arith) (omega arith) b, statement (omega arith) (omega arith) c, statement (omega arith) h e)
    statement l h (Y.while body a b c) = let fa = token_ends a in let fb = test_ends b in let fc = statement_ends c in (stands l (omega arith) a, test (omega arith) (omega arith) b, statement (omega arith) h c)
    statement l h (Y.do_while body a b c d e) = let fa = token_ends a in let fb = statement_ends b in let fc = token_ends c in let fd = test_ends d in let fe = token_ends e in (stands l (omega arith) a, statement (omega arith) (omega arith) b, test (omega arith) (omega arith) d)
    statement l h (Y.for body a b c d e f) = let fa = token_ends a in let fb = token_ends b in let fc = part_ends c in let fd = part_ends d in let fe = part_ends e in let ff = statement_ends f in (stands l (omega arith) a, part (omega arith) (omega arith) c, part (omega arith) (omega arith) d, part (omega arith) (omega arith) e, statement (omega arith) h f)
    statement l h (Y.break a b) = let fa = token_ends a in let fb = token_ends b in stands l (omega arith) a
    statement l h (Y.continue a b) = let fa = token_ends a in let fb = token_ends b in stands l (omega arith) a
    statement l h (Y.return a b) = let fa = token_ends a in let fb = part_ends b in (stands l (omega arith) a, part (omega arith) h b)
    statement l h (Y.with body a b c) = let fa = token_ends a in let fb = bracketed_ends b in let fc = statement_ends c in (stands l (omega arith) a, bracketed (omega arith) (omega arith) b, statement (omega arith) h c)
    statement l h (Y.everywhere body a b) = let fa = token_ends a in let fb = statement_ends b in (stands l (omega arith) a, statement (omega arith) h b)

    pub statements : {from to : ℕ} {list : List Stmt} → start ≤ from → to ≤ stop → AreStmts tokens from list to → Each (StatementWithin P) list
    statements l h Y.no_stmt = tt
    statements l h (Y.one_more {list = list} a b) = let fa = statements_ends a in let fb = statement_ends b in each_more (StatementWithin P) list _ (statements l (omega arith) a) (statement (omega arith) h b)

    pub block : {from to : ℕ} {block : Block} → start ≤ from → to ≤ stop → IsBlock tokens from block to → BlockWithin P block
    block l h (Y.block it a b c d) = let fa = token_ends a in let fb = declarations_ends b in let fc = statements_ends c in let fd = token_ends d in (stands l (omega arith) a, declarations (omega arith) (omega arith) b, statements (omega arith) (omega arith) c)

  pub shape_definition : {from to : ℕ} {s : ShapeDefinition} → start ≤ from → to ≤ stop → IsShapeDefinition tokens from s to → ShapeDefinitionWithin P s
  unfolding NameWithin ShapeDefinitionWithin
  shape_definition l h (Z.shape_definition a b) = let fa = indexes_ends a in let fb = token_ends b in let i = indexes l (omega arith) a in (i.1, stands (omega arith) h b)

  pub shape_definitions : {from to : ℕ} {list : List ShapeDefinition} → start ≤ from → to ≤ stop → AreShapeDefinitions tokens from list to → Each (ShapeDefinitionWithin P) list
  unfolding Each
  shape_definitions l h (Z.first_shape a) = (shape_definition l h a, tt)
  shape_definitions l h (Z.next_shape {next = next} {to = to} {list = list} a b c) = let fa = shape_definitions_ends a in let fb = token_ends b in let fc = shape_definition_ends c in each_more (ShapeDefinitionWithin P) list _ (shape_definitions l (omega arith) a) (shape_definition {from = next} {to = to} (omega arith) h c)

  pub parameter : {from to : ℕ} {p : Parameter} → start ≤ from → to ≤ stop → IsParameter tokens from p to → ParameterWithin P p
  unfolding NameWithin ParameterWithin
  parameter l h (Z.parameter a b) = let fa = type_ends a in let fb = token_ends b in (type l (omega arith) a, stands (omega arith) h b)

  pub named : {from to : ℕ} {list : List Parameter} → start ≤ from → to ≤ stop → AreNamed tokens from list to → Each (ParameterWithin P) list
  unfolding Each
  named l h (Z.first_parameter a) = (parameter l h a, tt)
  named l h (Z.next_parameter {list = list} a b c) = let fa = named_ends a in let fb = token_ends b in let fc = parameter_ends c in each_more (ParameterWithin P) list _ (named l (omega arith) a) (parameter (omega arith) h c)

  pub parameters : {from to : ℕ} {list : List Parameter} → start ≤ from → to ≤ stop → AreParameters tokens from list to → Each (ParameterWithin P) list
  unfolding Each
  parameters l h Z.nothing = tt
  parameters l h (Z.void a) = tt
  parameters l h (Z.named a) = named l h a

  pub result : {from to : ℕ} {r : ResultType} → start ≤ from → to ≤ stop → IsResult tokens from r to → ResultWithin P r
  unfolding ResultWithin
  result l h Z.unwritten = tt
  result l h (Z.void a) = tt
  result l h (Z.written a) = type l h a

  pub function : {from to : ℕ} {f : Function} → start ≤ from → to ≤ stop → IsFunction tokens from f to → FunctionWithin P f
  unfolding NameWithin FunctionWithin
  function l h (Z.function it a b c d e f g) = let fb = result_ends b in let fc = token_ends c in let fd = token_ends d in let fe = parameters_ends e in let ff = token_ends f in let fg = block_ends g in (holds _ _ l (omega arith) a, result l (omega arith) b, stands (omega arith) (omega arith) c, parameters (omega arith) (omega arith) e, block (omega arith) h g)

  pub item : {from to : ℕ} {item : Item} → start ≤ from → to ≤ stop → IsItem tokens from item to → ItemWithin P item
  unfolding ItemWithin
  item l h (Z.shapes a b c) = let fa = token_ends a in let fb = shape_definitions_ends b in let fc = token_ends c in (stands l (omega arith) a, shape_definitions (omega arith) (omega arith) b)
  item l h (Z.variables a) = declaration l h a
  item l h (Z.function_is a) = function l h a
