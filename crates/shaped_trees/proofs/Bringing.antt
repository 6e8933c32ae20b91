-- What a value is brought to is shaped where the value is.
use Rattle.std.proofs.Common.{◌≡◌, ℕ, true, false, is_none, List, [], ◌∷◌, Option, Some, None, refl, ap, ◌∙◌, sym, subst}
use Rattle.std.specs.List.{All}
use Rattle.std.proofs.lemmas.List.Elements.{All-nil, All-cons, All-head, All-tail}
use Rattle.std.proofs.lemmas.Option.{none-some}
use Rattle.cstar_base.specs.declared.elem.Elem.{Elem}
use Rattle.cstar_tree.specs.declared.typed.TExpr.{TExpr}
use Rattle.cstar_tree.specs.declared.typed.ValueType.{ValueType}
use Rattle.cstar_tree.specs.Conversions.{AreFitted, ArePromoted, AreSpread, IsConverted, IsFitted, IsSpread}
use Rattle.cstar_tree.specs.Conversions as C
use Rattle.cstar_tree.specs.Operations.{target_of}
use Rattle.cstar_tree.specs.Typed.{type_of}
use Rattle.lower_expr.specs.Steps.{is_kept}
use Rattle.code_lengths.specs.Shaped.{HasShape, IsShaped}
use Rattle.shaped_trees.specs.Laws.{IsShapedValue}

-- what is no target
pub no_target : {t : TExpr} → IsShaped t → is_kept t ≡ is_none (type_of t).shape → target_of t ≡ None → IsShapedValue t
no_target shaped kept none = record { shaped = shaped; target = λ which is. elim (none-some which (sym none ∙ is)) [ ]; kept = kept }

pub converted : {e f : TExpr} {elem : Elem} → IsConverted e elem f → IsShapedValue e → IsShapedValue f
unfolding IsShaped is_kept target_of
converted (C.as_it_is same) p = p
converted (C.by_node operand is other) p =
    let same = ap (λ (t : TExpr). is_none (type_of t).shape) is in
    let q = subst IsShapedValue (sym is) p in
    no_target (sym same, q.shaped) (q.kept ∙ same) refl

pub converted_shape : {e f : TExpr} {elem : Elem} → IsConverted e elem f → (type_of f).shape ≡ (type_of e).shape
converted_shape (C.as_it_is same) = refl
converted_shape (C.by_node operand is other) = refl

pub spread : {e f : TExpr} {wanted : Option ℕ} → IsSpread e wanted f → IsShapedValue e → IsShaped f
unfolding IsShaped
spread C.none_wanted p = p.shaped
spread (C.is_parallel shape) p = p.shaped
spread (C.at_each_position operand is scalar) p =
    let q = subst IsShapedValue (sym is) p in
    (q.kept ∙ ap (λ (t : TExpr). is_none (type_of t).shape) is ∙ ap is_none scalar, q.shaped)

pub fitted : {e f : TExpr} {ty : ValueType} → IsFitted e ty f → IsShapedValue e → IsShaped f
fitted fit p = spread fit.spread (converted fit.conversion p)

-- a value at every position of a shape is parallel, and one that is scalar where none is wanted stays so
pub spread_parallel : {e f : TExpr} {wanted : Option ℕ} → IsSpread e wanted f → is_none wanted ≡ false → HasShape (type_of f)
spread_parallel C.none_wanted has = cc
spread_parallel (C.is_parallel shape) has = ap is_none shape
spread_parallel (C.at_each_position operand is scalar) has = refl

spread_scalar : {e f : TExpr} {wanted : Option ℕ} → IsSpread e wanted f → is_none wanted ≡ true → (type_of e).shape ≡ None → is_none (type_of f).shape ≡ true
spread_scalar C.none_wanted none scalar = ap is_none scalar
spread_scalar (C.is_parallel shape) none scalar = ap is_none scalar
spread_scalar (C.at_each_position operand is s) none scalar = cc

-- a value brought to a type that takes scalars alone, if it is scalar, is scalar where that is
pub fitted_shape : {e f : TExpr} (ty : ValueType) → IsFitted e ty f → (ty.shape ≡ None → (type_of e).shape ≡ None) → is_none ty.shape ≡ is_none (type_of f).shape
fitted_shape {f = f} ty fit takes = by_shape ty.shape takes (λ has. spread_parallel fit.spread has) (λ none scalar. spread_scalar fit.spread none (converted_shape fit.conversion ∙ scalar))
  where
    by_shape : {given : Option ℕ} (shape : Option ℕ) → (shape ≡ None → given ≡ None) → (is_none shape ≡ false → HasShape (type_of f)) → (is_none shape ≡ true → given ≡ None → is_none (type_of f).shape ≡ true) → is_none shape ≡ is_none (type_of f).shape
    by_shape None takes parallel scalar = sym (scalar refl (takes refl))
    by_shape (Some s) takes parallel scalar = sym (parallel refl)

-- lists of values
pub all_shaped : (es : List TExpr) → All IsShapedValue es → All IsShaped es
all_shaped [] ps = All-nil IsShaped
all_shaped (e ∷ es) ps = let p = All-head IsShapedValue e es ps in All-cons IsShaped e es p.shaped (all_shaped es (All-tail IsShapedValue e es ps))

pub all_promoted : {es fs : List TExpr} → ArePromoted es fs → All IsShapedValue es → All IsShaped fs
all_promoted C.none ps = All-nil IsShaped
all_promoted (C.next {e = e} {p = f} {es = es} {ps = fs} c more) ps =
    let q = converted c (All-head IsShapedValue e es ps) in
    All-cons IsShaped f fs q.shaped (all_promoted more (All-tail IsShapedValue e es ps))

pub all_spread : {shape : Option ℕ} {es fs : List TExpr} → AreSpread shape es fs → All IsShapedValue es → All IsShaped fs
all_spread C.none ps = All-nil IsShaped
all_spread (C.next {e = e} {p = f} {es = es} {ps = fs} s more) ps = All-cons IsShaped f fs (spread s (All-head IsShapedValue e es ps)) (all_spread more (All-tail IsShapedValue e es ps))

pub all_fitted : {types : List ValueType} {es fs : List TExpr} → AreFitted types es fs → All IsShapedValue es → All IsShaped fs
all_fitted C.none ps = All-nil IsShaped
all_fitted (C.next {e = e} {f = f} {es = es} {fs = fs} takes fit more) ps = All-cons IsShaped f fs (fitted fit (All-head IsShapedValue e es ps)) (all_fitted more (All-tail IsShapedValue e es ps))
