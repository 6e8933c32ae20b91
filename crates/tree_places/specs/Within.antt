-- Expressions and declarations that lie within some places: every place that is kept anywhere in them
-- is one of these.
use Rattle.std.specs.Prelude.{List, [], ◌∷◌, IfSome}
use Rattle.cstar_base.specs.declared.operators.Place.{Place}
use Rattle.cstar_tree.specs.declared.syntax.Cast.{Cast}
use Rattle.cstar_tree.specs.declared.syntax.Declaration.{Declaration}
use Rattle.cstar_tree.specs.declared.syntax.Declarator.{Declarator}
use Rattle.cstar_tree.specs.declared.syntax.Expr.{Expr, Row_of-Expr, end_of-Expr, more_of-Expr}
use Rattle.cstar_tree.specs.declared.syntax.Expr as E
use Rattle.cstar_tree.specs.declared.syntax.Initializer.{Initializer}
use Rattle.cstar_tree.specs.declared.syntax.Name.{Name}
use Rattle.cstar_tree.specs.declared.syntax.ShapeRef.{ShapeRef}
use Rattle.cstar_tree.specs.declared.syntax.ShapeRef.TheVariants as R
use Rattle.cstar_tree.specs.declared.syntax.TypeName.{TypeName}

-- this holds of each thing of a list
unfoldable pub Each : {A : Type 0} → (A → Type 0) → List A → Type 0
Each P [] = Unit {0}
Each P (x ∷ xs) = P x × Each P xs

unfoldable pub NameWithin : (Place → Type 0) → Name → Type 0
NameWithin P n = P n.place

unfoldable pub CastWithin : (Place → Type 0) → Cast → Type 0
CastWithin P cast = P cast.place

unfoldable pub ShapeWithin : (Place → Type 0) → ShapeRef → Type 0
ShapeWithin P (R.Named n) = NameWithin P n
ShapeWithin P (R.Current p) = P p

unfoldable pub TypeWithin : (Place → Type 0) → TypeName → Type 0
TypeWithin P t = P t.place × IfSome t.shape (ShapeWithin P)

unfoldable mutual
  pub ExpressionWithin : (Place → Type 0) → Expr → Type 0
  ExpressionWithin P (E.Assign' p op _ target _ value) = P p × ExpressionWithin P target × ExpressionWithin P value
  ExpressionWithin P (E.Choice' p _ test _ second _ third) = P p × ExpressionWithin P test × ExpressionWithin P second × ExpressionWithin P third
  ExpressionWithin P (E.Binary' p op _ left _ right) = P p × ExpressionWithin P left × ExpressionWithin P right
  ExpressionWithin P (E.Prefix' p op _ operand) = P p × ExpressionWithin P operand
  ExpressionWithin P (E.Casts' casts _ operand) = Each (CastWithin P) casts.items × ExpressionWithin P operand
  ExpressionWithin P (E.ParallelCast' p written _ operand) = P p × TypeWithin P written × ExpressionWithin P operand
  ExpressionWithin P (E.Postfix' p op _ operand) = P p × ExpressionWithin P operand
  ExpressionWithin P (E.Name n) = NameWithin P n
  ExpressionWithin P (E.Element' n bracket _ index) = NameWithin P n × P bracket × ExpressionWithin P index
  ExpressionWithin P (E.Number p value unsigned) = P p
  ExpressionWithin P (E.Dot p) = P p
  ExpressionWithin P (E.Brackets' p _ inner) = P p × ExpressionWithin P inner
  ExpressionWithin P (E.Call' n _ arguments) = NameWithin P n × ExpressionsWithin P arguments
  ExpressionWithin P (E.LeftIndex' p _ indexes n) = P p × ExpressionsWithin P indexes × NameWithin P n
  ExpressionWithin P (E.Pcoord' p _ axis) = P p × ExpressionWithin P axis
  ExpressionWithin P (E.PositionsOf p shape) = P p × ShapeWithin P shape
  ExpressionWithin P (E.RankOf p shape) = P p × ShapeWithin P shape
  ExpressionWithin P (E.DimOf' p shape _ axis) = P p × ShapeWithin P shape × ExpressionWithin P axis
  ExpressionWithin P (E.Scan' p _ source _ axis _ _ _ bit _) =
      P p × ExpressionWithin P source × ExpressionWithin P axis × IfSome bit (NameWithin P)
  ExpressionWithin P (E.Enumerate' p _ axis _ _ _ bit) = P p × ExpressionWithin P axis × IfSome bit (NameWithin P)
  ExpressionWithin P (E.Printf' p text _ arguments) = P p × ExpressionsWithin P arguments
  ExpressionWithin P (E.GetChar p) = P p

  pub ExpressionsWithin : {n : _} → (Place → Type 0) → Row_of-Expr n → Type 0
  ExpressionsWithin P end_of-Expr = Unit {0}
  ExpressionsWithin P (more_of-Expr e rest) = ExpressionWithin P e × ExpressionsWithin P rest

unfoldable pub InitialWithin : (Place → Type 0) → Initializer → Type 0
InitialWithin P i = P i.place × ExpressionWithin P i.value

unfoldable pub DeclaratorWithin : (Place → Type 0) → Declarator → Type 0
DeclaratorWithin P d = NameWithin P d.name × IfSome d.length (ExpressionWithin P) × IfSome d.initial (InitialWithin P)

unfoldable pub DeclarationWithin : (Place → Type 0) → Declaration → Type 0
DeclarationWithin P d = TypeWithin P d.type_name × Each (DeclaratorWithin P) d.variables.items
