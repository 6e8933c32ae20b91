-- Syntax trees in which each parallel cast names a shape, as in all that the grammar spells.
use Rattle.std.specs.Prelude.{IfSome, IsSome}
use Rattle.std.specs.List.{All}
use Rattle.cstar_tree.specs.declared.syntax.Block.{Block}
use Rattle.cstar_tree.specs.declared.syntax.Declaration.{Declaration}
use Rattle.cstar_tree.specs.declared.syntax.Declarator.{Declarator}
use Rattle.cstar_tree.specs.declared.syntax.Expr.{Expr, Row_of-Expr, end_of-Expr, more_of-Expr}
use Rattle.cstar_tree.specs.declared.syntax.Expr as E
use Rattle.cstar_tree.specs.declared.syntax.Initializer.{Initializer}
use Rattle.cstar_tree.specs.declared.syntax.Item.{Item}
use Rattle.cstar_tree.specs.declared.syntax.Item.TheVariants as I
use Rattle.cstar_tree.specs.declared.syntax.ShapeDefinition.{ShapeDefinition}
use Rattle.cstar_tree.specs.declared.syntax.Stmt.{Stmt, Row_of-Stmt, end_of-Stmt, more_of-Stmt, Held-Stmt-If-3, None', Some'}
use Rattle.cstar_tree.specs.declared.syntax.Stmt as S
use Rattle.cstar_tree.specs.declared.syntax.Tree.{Tree}

unfoldable mutual
  pub ExpressionNamesShapes : Expr → Type 0
  ExpressionNamesShapes (E.Assign' p op _ target _ value) = ExpressionNamesShapes target × ExpressionNamesShapes value
  ExpressionNamesShapes (E.Choice' p _ test _ second _ third) = ExpressionNamesShapes test × ExpressionNamesShapes second × ExpressionNamesShapes third
  ExpressionNamesShapes (E.Binary' p op _ left _ right) = ExpressionNamesShapes left × ExpressionNamesShapes right
  ExpressionNamesShapes (E.Prefix' p op _ operand) = ExpressionNamesShapes operand
  ExpressionNamesShapes (E.Casts' casts _ operand) = ExpressionNamesShapes operand
  ExpressionNamesShapes (E.ParallelCast' p written _ operand) = IsSome written.shape × ExpressionNamesShapes operand
  ExpressionNamesShapes (E.Postfix' p op _ operand) = ExpressionNamesShapes operand
  ExpressionNamesShapes (E.Element' n bracket _ index) = ExpressionNamesShapes index
  ExpressionNamesShapes (E.Brackets' p _ inner) = ExpressionNamesShapes inner
  ExpressionNamesShapes (E.Call' n _ arguments) = ExpressionsNameShapes arguments
  ExpressionNamesShapes (E.LeftIndex' p _ indexes n) = ExpressionsNameShapes indexes
  ExpressionNamesShapes (E.Pcoord' p _ axis) = ExpressionNamesShapes axis
  ExpressionNamesShapes (E.DimOf' p shape _ axis) = ExpressionNamesShapes axis
  ExpressionNamesShapes (E.Scan' p _ source _ axis _ _ _ bit _) = ExpressionNamesShapes source × ExpressionNamesShapes axis
  ExpressionNamesShapes (E.Enumerate' p _ axis _ _ _ bit) = ExpressionNamesShapes axis
  ExpressionNamesShapes (E.Printf' p text _ arguments) = ExpressionsNameShapes arguments
  ExpressionNamesShapes _ = Unit {0}

  pub ExpressionsNameShapes : {n : _} → Row_of-Expr n → Type 0
  ExpressionsNameShapes end_of-Expr = Unit {0}
  ExpressionsNameShapes (more_of-Expr e rest) = ExpressionNamesShapes e × ExpressionsNameShapes rest

unfoldable pub DeclaratorNamesShapes : Declarator → Type 0
DeclaratorNamesShapes d = IfSome d.length ExpressionNamesShapes × IfSome d.initial (λ (i : Initializer). ExpressionNamesShapes i.value)

unfoldable pub DeclarationNamesShapes : Declaration → Type 0
DeclarationNamesShapes d = All DeclaratorNamesShapes d.variables.items

unfoldable mutual
  pub StatementNamesShapes : Stmt → Type 0
  StatementNamesShapes (S.Block' p declarations _ statements) = All DeclarationNamesShapes declarations.items × StatementsNameShapes statements
  StatementNamesShapes (S.Expression p e) = ExpressionNamesShapes e
  StatementNamesShapes (S.If' p test _ second third) = ExpressionNamesShapes test × StatementNamesShapes second × ElseNamesShapes third
  StatementNamesShapes (S.While' p test _ body) = ExpressionNamesShapes test × StatementNamesShapes body
  StatementNamesShapes (S.Do' p _ body test) = StatementNamesShapes body × ExpressionNamesShapes test
  StatementNamesShapes (S.For' p first test step _ body) =
      IfSome first ExpressionNamesShapes × IfSome test ExpressionNamesShapes × IfSome step ExpressionNamesShapes × StatementNamesShapes body
  StatementNamesShapes (S.Return p value) = IfSome value ExpressionNamesShapes
  StatementNamesShapes (S.With' p shape _ body) = StatementNamesShapes body
  StatementNamesShapes (S.Everywhere' p _ body) = StatementNamesShapes body
  StatementNamesShapes (S.Where' p test _ second third) = ExpressionNamesShapes test × StatementNamesShapes second × ElseNamesShapes third
  StatementNamesShapes _ = Unit {0}

  pub StatementsNameShapes : {n : _} → Row_of-Stmt n → Type 0
  StatementsNameShapes end_of-Stmt = Unit {0}
  StatementsNameShapes (more_of-Stmt s rest) = StatementNamesShapes s × StatementsNameShapes rest

  pub ElseNamesShapes : Held-Stmt-If-3 → Type 0
  ElseNamesShapes None' = Unit {0}
  ElseNamesShapes (Some' _ s) = StatementNamesShapes s

unfoldable pub BlockNamesShapes : Block → Type 0
BlockNamesShapes block = All DeclarationNamesShapes block.declarations.items × All StatementNamesShapes block.statements.items

unfoldable pub ShapeNamesShapes : ShapeDefinition → Type 0
ShapeNamesShapes s = All ExpressionNamesShapes s.extents.items

unfoldable pub ItemNamesShapes : Item → Type 0
ItemNamesShapes (I.Shapes p shapes) = All ShapeNamesShapes shapes.items
ItemNamesShapes (I.Variables d) = DeclarationNamesShapes d
ItemNamesShapes (I.Function f) = BlockNamesShapes f.body

abbrev pub NamesShapes : Tree → Type 0
NamesShapes tree = All ItemNamesShapes tree.items.items
