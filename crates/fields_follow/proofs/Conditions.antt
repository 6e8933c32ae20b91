-- What is known of two values that are joined by `&&` or `||`.
use Rattle.std.proofs.Common.{◌≡◌, ◌∙◌, ◌&&◌, ◌⊎◌, inl, inr, ℕ, Bool, true, false, not, Some, refl, sym, ap}
use Rattle.std.specs.Prelude.{is_none}
use Rattle.cstar_tree.specs.declared.typed.Instance.{Instance}
use Rattle.cstar_tree.specs.declared.typed.TExpr.{TExpr}
use Rattle.cstar_tree.specs.declared.typed.TExpr as T
use Rattle.cstar_tree.specs.declared.typed.Typed.{Typed}
use Rattle.cstar_tree.specs.declared.typed.ValueType.{ValueType}
use Rattle.cstar_tree.specs.declared.typed.Variable.{Variable}
use Rattle.code_lengths.specs.Lowerable.{GivesValue, IsLowerable}
use Rattle.code_lengths.specs.Naming.{NamesVariables}
use Rattle.code_lengths.specs.Shaped.{IsShaped}
use Rattle.lower_expr.specs.Joined.{joins}
use Rattle.lower_expr.specs.Operands.{ignores_context}
use Rattle.lower_expr.specs.Steps.{is_kept}
use Rattle.source_meaning.proofs.ConstantLaws.{Boxed}
use Rattle.code_follows.specs.Fragment.{NamesAmong}
use Rattle.code_follows.proofs.Words.{kept}
use Rattle.fields_follow.specs.Fragment.{HasKnownKind, IsCalm, IsPromoted, IsPure, alone}
use Rattle.fields_follow.proofs.Calm.{calm_alone}
use Rattle.fields_follow.proofs.Forms.{HasItsCode, promoted_kept, pure_kept}

-- two are joined by one operation where the right one has the same value under every context
pub conditions_join : (set : ℕ) (left right : TExpr) → IsPure set left → IsPure set right → ignores_context right ≡ true → joins left right ≡ true
unfolding joins
conditions_join set left right is also same = by (is_kept left) (is_kept right) (ignores_context right) (pure_kept set left is) (pure_kept set right also) same
  where
    by : (a b c : Bool) → a ≡ false → b ≡ false → c ≡ true → (not a && not b && c) ≡ true
    by false false true e f h = refl
    by true b c e f h = cc
    by false true c e f h = cc
    by false false false e f h = cc

-- nor are they where the left one is a scalar
pub joined_left : (left right : TExpr) → is_kept left ≡ true → joins left right ≡ false
unfolding joins
joined_left left right there = ap (λ (b : Bool). not b && not (is_kept right) && ignores_context right) there

-- a promoted one is not joined
pub joined_right : (set : ℕ) (left right : TExpr) → IsPromoted set right → joins left right ≡ false
unfolding joins
joined_right set left right promoted = ap (λ (b : Bool). not (is_kept left) && not b && ignores_context right) (promoted_kept set right promoted) ∙ by (not (is_kept left))
  where
    by : (b : Bool) → (b && false && ignores_context right) ≡ false
    by true = refl
    by false = refl

-- what is known of the right one of two that are joined
pub joined_free : (left right : TExpr) → joins left right ≡ true → ignores_context right ≡ true
unfolding joins
joined_free left right join = by (not (is_kept left) && not (is_kept right)) (ignores_context right) join
  where
    by : (a b : Bool) → (a && b) ≡ true → b ≡ true
    by a true h = refl
    by true false h = cc
    by false false h = cc

pub joined_pure : (set : ℕ) (left right : TExpr) → (IsPure set left × HasKnownKind left) ⊎ IsCalm left → joins left right ≡ true → IsPure set left × HasKnownKind left
joined_pure set left right (inl kinded) join = kinded
joined_pure set left right (inr calm) join = let wrong = sym (joined_left left right (kept alone left (calm_alone left calm))) ∙ join in cc

pub joined_kinded : {A : Type 0} (set : ℕ) (left right : TExpr) → (IsPure set right × HasKnownKind right) ⊎ (IsPromoted set right × A) → joins left right ≡ true → IsPure set right × HasKnownKind right
joined_kinded set left right (inl kinded) join = kinded
joined_kinded set left right (inr promoted) join = let wrong = sym (joined_right set left right promoted.0) ∙ join in cc

-- a scalar left one has a parallel right one
pub beside_scalar : {A : Type 0} (set : ℕ) (left right : TExpr) → IsCalm left → (is_kept left ≡ true → is_kept right ≡ false) → (IsPure set right × HasKnownKind right) ⊎ (IsPromoted set right × A) → IsPure set right × HasKnownKind right
beside_scalar set left right calm field (inl kinded) = kinded
beside_scalar set left right calm field (inr promoted) = let wrong = sym (field (kept alone left (calm_alone left calm))) ∙ promoted_kept set right promoted.0 in cc

-- of two that are joined each has code
pub record HaveTheirCode (t : Typed) (i : Instance) (alive : Variable → Type 0) (n : ℕ) (left right : TExpr) : Type 0 where
  pub left_code : HasItsCode t i alive n left
  pub right_code : HasItsCode t i alive n right
  pub left_gives : GivesValue t left
  pub right_gives : GivesValue t right
  pub right_field : is_kept left ≡ true → is_kept right ≡ false

module _ (t : Typed) (i : Instance) (alive : Variable → Type 0) (n : ℕ) where
  -- the operands of `||` and `&&`
  pub or_codes : (set : ℕ) (ty : ValueType) (p q : Boxed) (left right : TExpr) → ty.shape ≡ Some set → HasItsCode t i alive n (T.LogicalOr' ty p left q right) → HaveTheirCode t i alive n left right
  unfolding IsShaped IsLowerable NamesVariables NamesAmong
  or_codes set ty p q left right shaped h = record {
    left_code = record { code = record { shaped = h.code.shaped.0; lowerable = h.code.lowerable.1; names = h.code.names.0 }; among = h.among.0 };
    right_code = record { code = record { shaped = h.code.shaped.1; lowerable = h.code.lowerable.2; names = h.code.names.1 }; among = h.among.1 };
    left_gives = h.code.lowerable.0.left_gives;
    right_gives = h.code.lowerable.0.right_gives;
    right_field = h.code.lowerable.0.right_field (ap is_none shaped);
  }

  pub and_codes : (set : ℕ) (ty : ValueType) (p q : Boxed) (left right : TExpr) → ty.shape ≡ Some set → HasItsCode t i alive n (T.LogicalAnd' ty p left q right) → HaveTheirCode t i alive n left right
  unfolding IsShaped IsLowerable NamesVariables NamesAmong
  and_codes set ty p q left right shaped h = record {
    left_code = record { code = record { shaped = h.code.shaped.0; lowerable = h.code.lowerable.1; names = h.code.names.0 }; among = h.among.0 };
    right_code = record { code = record { shaped = h.code.shaped.1; lowerable = h.code.lowerable.2; names = h.code.names.1 }; among = h.among.1 };
    left_gives = h.code.lowerable.0.left_gives;
    right_gives = h.code.lowerable.0.right_gives;
    right_field = h.code.lowerable.0.right_field (ap is_none shaped);
  }
