-- What holds of an expression where it holds of its parts holds of every expression.
use Rattle.std.proofs.Common.{◌≡◌, ℕ, List, [], ◌∷◌, Option, Some, refl, ap, ◌∙◌}
use Rattle.std.specs.List.{All, slice_get}
use Rattle.std.proofs.lemmas.List.Elements.{All-cons, All-nil}
use mathlib.Core.Former.{Count}
use Rattle.cstar_base.specs.declared.operators.SegmentMode.{SegmentMode}
use Rattle.cstar_tree.specs.declared.syntax.Expr.{Expr, Row_of-Expr, end_of-Expr, more_of-Expr, items-the_row-Expr, items_hidden-the_row-Expr-0}
use Rattle.cstar_tree.specs.declared.syntax.Expr as E
use Rattle.cstar_tree.specs.declared.syntax.Name.{Name}
use Rattle.cstar_tree.specs.ExpressionFaults.{GoesAlong, IsPart}
use Rattle.cstar_tree.specs.ExpressionFaults as F
use Rattle.cstar_tree.specs.Scopes.{Here}
use Rattle.unique_types.proofs.Faultless.{all_at}

abbrev pub parts : Expr → List Expr
parts (E.Assign' p op _ target _ value) = target ∷ value ∷ []
parts (E.Choice' p _ test _ second _ third) = test ∷ second ∷ third ∷ []
parts (E.Binary' p op _ left _ right) = left ∷ right ∷ []
parts (E.Prefix' p op _ operand) = operand ∷ []
parts (E.Casts' chain _ operand) = operand ∷ []
parts (E.ParallelCast' p written _ operand) = operand ∷ []
parts (E.Postfix' p op _ operand) = operand ∷ []
parts (E.Element' n bracket _ index) = index ∷ []
parts (E.Brackets' p _ inner) = inner ∷ []
parts (E.Call' n _ row) = items-the_row-Expr _ row
parts (E.LeftIndex' p _ row n) = items-the_row-Expr _ row
parts (E.Pcoord' p _ axis) = axis ∷ []
parts (E.DimOf' p shape _ axis) = axis ∷ []
parts (E.Scan' p _ source _ axis _ _ _ bit _) = source ∷ axis ∷ []
parts (E.Enumerate' p _ axis _ _ _ bit) = axis ∷ []
parts (E.Printf' p text _ row) = items-the_row-Expr _ row
parts _ = []

abbrev IsAmong : List Expr → Expr → Type 0
IsAmong es x = (which : ℕ) × (slice_get es which ≡ Some x)

listed : {es : List Expr} (row : List Expr) (which : ℕ) {x : Expr} → row ≡ es → slice_get es which ≡ Some x → IsAmong row x
listed row which same is = (which, ap (λ (l : List Expr). slice_get l which) same ∙ is)

along_among : {e axis : Expr} {mode : SegmentMode} {bit : Option Name} → GoesAlong e axis mode bit → IsAmong (parts e) axis
along_among (F.pcoord axis) = (0, refl)
along_among (F.scan source axis) = (1, refl)
along_among (F.enumerate axis) = (0, refl)

part_among : {here there : Here} {e x : Expr} → IsPart here e there x → IsAmong (parts e) x
part_among (F.target target value) = (0, refl)
part_among (F.value target value) = (1, refl)
part_among (F.test test second third) = (0, refl)
part_among (F.second test second third) = (1, refl)
part_among (F.third test second third) = (2, refl)
part_among (F.left left right) = (0, refl)
part_among (F.right left right) = (1, refl)
part_among (F.of_prefix operand) = (0, refl)
part_among (F.of_postfix operand) = (0, refl)
part_among (F.of_casts chain operand) = (0, refl)
part_among (F.of_cast operand) = (0, refl)
part_among (F.right_index index) = (0, refl)
part_among (F.argument arguments which is) = listed _ which (items_hidden-the_row-Expr-0 arguments) is
part_among (F.left_index indexes which is) = listed _ which (items_hidden-the_row-Expr-0 indexes) is
part_among (F.IsPart.along g) = along_among g
part_among (F.IsPart.of_dim axis) = (0, refl)
part_among (F.IsPart.source source axis) = (0, refl)
part_among (F.printed arguments which is) = listed _ which (items_hidden-the_row-Expr-0 arguments) is

module _ (P : Expr → Type 0) where
  pub of_part : {here there : Here} {e x : Expr} → All P (parts e) → IsPart here e there x → P x
  of_part {e = e} all is = let among = part_among is in all_at P (parts e) among.0 all among.1

  module _ (step : (e : Expr) → All P (parts e) → P e) where
    one : {x : Expr} → P x → All P (x ∷ [])
    one {x} holds = All-cons P x [] holds (All-nil P)

    two : {x y : Expr} → P x → P y → All P (x ∷ y ∷ [])
    two {x} {y} first second = All-cons P x (y ∷ []) first (one second)

    mutual
      pub every : (e : Expr) → P e
      every (E.Assign' p op a target b value) = step (E.Assign' p op a target b value) (two (every target) (every value))
      every (E.Choice' p a test b second c third) = step (E.Choice' p a test b second c third) (All-cons P test (second ∷ third ∷ []) (every test) (two (every second) (every third)))
      every (E.Binary' p op a left b right) = step (E.Binary' p op a left b right) (two (every left) (every right))
      every (E.Prefix' p op a operand) = step (E.Prefix' p op a operand) (one (every operand))
      every (E.Casts' chain a operand) = step (E.Casts' chain a operand) (one (every operand))
      every (E.ParallelCast' p written a operand) = step (E.ParallelCast' p written a operand) (one (every operand))
      every (E.Postfix' p op a operand) = step (E.Postfix' p op a operand) (one (every operand))
      every (E.Element' n bracket a index) = step (E.Element' n bracket a index) (one (every index))
      every (E.Brackets' p a inner) = step (E.Brackets' p a inner) (one (every inner))
      every (E.Call' n a row) = step (E.Call' n a row) (every_row row)
      every (E.LeftIndex' p a row n) = step (E.LeftIndex' p a row n) (every_row row)
      every (E.Pcoord' p a axis) = step (E.Pcoord' p a axis) (one (every axis))
      every (E.DimOf' p shape a axis) = step (E.DimOf' p shape a axis) (one (every axis))
      every (E.Scan' p a source b axis combiner direction mode bit reach) = step (E.Scan' p a source b axis combiner direction mode bit reach) (two (every source) (every axis))
      every (E.Enumerate' p a axis direction reach mode bit) = step (E.Enumerate' p a axis direction reach mode bit) (one (every axis))
      every (E.Printf' p text a row) = step (E.Printf' p text a row) (every_row row)
      every (E.Name n) = step (E.Name n) (All-nil P)
      every (E.Number p value u) = step (E.Number p value u) (All-nil P)
      every (E.Dot p) = step (E.Dot p) (All-nil P)
      every (E.PositionsOf p shape) = step (E.PositionsOf p shape) (All-nil P)
      every (E.RankOf p shape) = step (E.RankOf p shape) (All-nil P)
      every (E.GetChar p) = step (E.GetChar p) (All-nil P)

      every_row : {k : Count} (row : Row_of-Expr k) → All P (items-the_row-Expr k row)
      every_row end_of-Expr = All-nil P
      every_row (more_of-Expr e rest) = All-cons P e (items-the_row-Expr _ rest) (every e) (every_row rest)
