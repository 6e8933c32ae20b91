-- Coordinates that are too few or too many for the extents.
use Rattle.std.proofs.Common.{◌≡◌, ℕ, suc, List, [], ◌∷◌, length, Option, Some, None, refl, ap}
use Rattle.cstar_tree.specs.declared.typed.TExpr.{TExpr}
use Rattle.source_meaning.specs.Constants.{then_value}
use Rattle.lower_expr.specs.Positions.{position_from, with_index}

none_behind : (o : Option ℕ) (next : ℕ → Option ℕ) → ((n : ℕ) → next n ≡ None) → then_value o next ≡ None
none_behind None next h = refl
none_behind (Some n) next h = h n

pub too_few_or_many : (position : ℕ) (extents : List ℕ) (indexes : List TExpr) → (length extents ≡ length indexes → ⊥) → position_from position extents indexes ≡ None
unfolding position_from
too_few_or_many position [] [] h = absurd (h refl)
too_few_or_many position [] (index ∷ indexes) h = refl
too_few_or_many position (extent ∷ extents) [] h = refl
too_few_or_many position (extent ∷ extents) (index ∷ indexes) h =
    none_behind (with_index position extent index) _ (λ next. too_few_or_many next extents indexes (λ e. h (ap suc e)))
