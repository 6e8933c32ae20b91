-- Statements and items that lie within some places.
use Rattle.std.specs.Prelude.{IfSome}
use Rattle.cstar_base.specs.declared.operators.Place.{Place}
use Rattle.cstar_tree.specs.declared.syntax.Block.{Block}
use Rattle.cstar_tree.specs.declared.syntax.Function.{Function}
use Rattle.cstar_tree.specs.declared.syntax.Item.{Item}
use Rattle.cstar_tree.specs.declared.syntax.Item.TheVariants as I
use Rattle.cstar_tree.specs.declared.syntax.Parameter.{Parameter}
use Rattle.cstar_tree.specs.declared.syntax.ResultType.{ResultType}
use Rattle.cstar_tree.specs.declared.syntax.ResultType.TheVariants as R
use Rattle.cstar_tree.specs.declared.syntax.ShapeDefinition.{ShapeDefinition}
use Rattle.cstar_tree.specs.declared.syntax.Stmt.{Stmt, Row_of-Stmt, end_of-Stmt, more_of-Stmt, Held-Stmt-If-3, None', Some'}
use Rattle.cstar_tree.specs.declared.syntax.Stmt as S
use Rattle.tree_places.specs.Within.{Each, NameWithin, ShapeWithin, TypeWithin, ExpressionWithin, DeclarationWithin}

unfoldable mutual
  pub StatementWithin : (Place → Type 0) → Stmt → Type 0
  StatementWithin P (S.Block' p declarations _ statements) = P p × Each (DeclarationWithin P) declarations.items × StatementsWithin P statements
  StatementWithin P (S.Expression p e) = P p × ExpressionWithin P e
  StatementWithin P (S.Empty p) = P p
  StatementWithin P (S.If' p test _ second third) = P p × ExpressionWithin P test × StatementWithin P second × ElseWithin P third
  StatementWithin P (S.While' p test _ body) = P p × ExpressionWithin P test × StatementWithin P body
  StatementWithin P (S.Do' p _ body test) = P p × StatementWithin P body × ExpressionWithin P test
  StatementWithin P (S.For' p first test step _ body) =
      P p × IfSome first (ExpressionWithin P) × IfSome test (ExpressionWithin P) × IfSome step (ExpressionWithin P) × StatementWithin P body
  StatementWithin P (S.Break p) = P p
  StatementWithin P (S.Continue p) = P p
  StatementWithin P (S.Return p value) = P p × IfSome value (ExpressionWithin P)
  StatementWithin P (S.With' p shape _ body) = P p × ShapeWithin P shape × StatementWithin P body
  StatementWithin P (S.Everywhere' p _ body) = P p × StatementWithin P body
  StatementWithin P (S.Where' p test _ second third) = P p × ExpressionWithin P test × StatementWithin P second × ElseWithin P third

  pub StatementsWithin : {n : _} → (Place → Type 0) → Row_of-Stmt n → Type 0
  StatementsWithin P end_of-Stmt = Unit {0}
  StatementsWithin P (more_of-Stmt s rest) = StatementWithin P s × StatementsWithin P rest

  pub ElseWithin : (Place → Type 0) → Held-Stmt-If-3 → Type 0
  ElseWithin P None' = Unit {0}
  ElseWithin P (Some' _ s) = StatementWithin P s

unfoldable pub BlockWithin : (Place → Type 0) → Block → Type 0
BlockWithin P block = P block.place × Each (DeclarationWithin P) block.declarations.items × Each (StatementWithin P) block.statements.items

unfoldable pub ResultWithin : (Place → Type 0) → ResultType → Type 0
ResultWithin P R.Unwritten = Unit {0}
ResultWithin P R.Void = Unit {0}
ResultWithin P (R.Written t) = TypeWithin P t

unfoldable pub ParameterWithin : (Place → Type 0) → Parameter → Type 0
ParameterWithin P p = TypeWithin P p.type_name × NameWithin P p.name

unfoldable pub FunctionWithin : (Place → Type 0) → Function → Type 0
FunctionWithin P f = P f.place × ResultWithin P f.result × NameWithin P f.name × Each (ParameterWithin P) f.parameters.items × BlockWithin P f.body

unfoldable pub ShapeDefinitionWithin : (Place → Type 0) → ShapeDefinition → Type 0
ShapeDefinitionWithin P s = Each (ExpressionWithin P) s.extents.items × NameWithin P s.name

unfoldable pub ItemWithin : (Place → Type 0) → Item → Type 0
ItemWithin P (I.Shapes p shapes) = P p × Each (ShapeDefinitionWithin P) shapes.items
ItemWithin P (I.Variables d) = DeclarationWithin P d
ItemWithin P (I.Function f) = FunctionWithin P f
