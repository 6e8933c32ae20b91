-- Reading the typed tree.
use Rattle.cstar_tree.specs.declared.typed.ValueType.{ValueType}
use Rattle.cstar_tree.specs.declared.typed.TExpr.{TExpr}
use Rattle.cstar_tree.specs.declared.typed.TExpr as T

-- the type of an expression's value
abbrev pub type_of : TExpr → ValueType
type_of (T.Assign' ty _ _ _ _ _ _) = ty
type_of (T.Choice' ty _ _ _ _ _ _) = ty
type_of (T.LogicalOr' ty _ _ _ _) = ty
type_of (T.LogicalAnd' ty _ _ _ _) = ty
type_of (T.Binary' ty _ _ _ _ _ _) = ty
type_of (T.Unary' ty _ _ _) = ty
type_of (T.Step' ty _ _ _ _) = ty
type_of (T.Reduce' ty _ _ _) = ty
type_of (T.Casts' ty _ _ _) = ty
type_of (T.ParallelCast' ty _ _) = ty
type_of (T.Convert' ty _ _) = ty
type_of (T.Promote' ty _ _) = ty
type_of (T.Variable ty _) = ty
type_of (T.Element' ty _ _ _ _) = ty
type_of (T.Number ty _) = ty
type_of (T.Dot ty _) = ty
type_of (T.Brackets' ty _ _) = ty
type_of (T.Call' ty _ _ _) = ty
type_of (T.LeftIndex' ty _ _ _ _ _) = ty
type_of (T.Pcoord ty _) = ty
type_of (T.PositionsOf ty _ _) = ty
type_of (T.RankOf ty _ _) = ty
type_of (T.DimOf ty _ _ _) = ty
type_of (T.Scan' ty _ _ _ _ _ _ _ _) = ty
type_of (T.Enumerate ty _ _ _ _ _) = ty
type_of (T.Printf' ty _ _ _) = ty
type_of (T.GetChar ty) = ty
