-- What stands behind a directive to the end of its line.
use Rattle.std.proofs.Common.{◌≡◌, ℕ, inl, Bool, true, false, List, [], ◌∷◌, drop, arith, refl, sym, ap, subst}
use Rattle.std.specs.Prelude.{slice_index}
use Rattle.cstar_lexer.specs.Bytes.{is_inner_blank}
use Rattle.cstar_lexer.specs.Comments.{IsComment, OpensComment}
use Rattle.cstar_lexer.specs.Directives.{IsEmptyEnd, behind_blanks}
use Rattle.cstar_lexer.specs.Directives as D
use Rattle.cstar_lexer.proofs.DirectiveLemmas.{at_once, none_behind, past_blank}
use Rattle.cstar_lexer.proofs.FirstBytes.{at_47, blank_class}
use Rattle.cstar_lexer.proofs.OnePiece.{one_comment}

no_blank_comment : (x : ℕ) {A : Type 0} → is_inner_blank x ≡ true → x ≡ 47 → A
no_blank_comment x h e = absurd (omega (arith, blank_class {x = x} (inl h), at_47 x e))

unblank : (x : ℕ) (xs : List ℕ) → is_inner_blank x ≡ true → IsEmptyEnd (x ∷ xs) → IsEmptyEnd xs
unblank x xs e (D.nothing is) = absurd (cc)
unblank x xs e (D.blank b r) = r
unblank x xs e (D.comment c r) = no_blank_comment x e c.slash

pub behind_empty : (bytes : List ℕ) → IsEmptyEnd bytes → IsEmptyEnd (behind_blanks bytes)
behind_empty [] h = D.nothing none_behind
behind_empty (x ∷ xs) h = step (is_inner_blank x) refl (behind_empty xs)
  where
    step : (b : Bool) → is_inner_blank x ≡ b → (IsEmptyEnd xs → IsEmptyEnd (behind_blanks xs)) → IsEmptyEnd (behind_blanks (x ∷ xs))
    step true e more = subst (λ (ys : List ℕ). IsEmptyEnd ys) (sym (past_blank x xs e)) (more (unblank x xs e h))
    step false e more = subst (λ (ys : List ℕ). IsEmptyEnd ys) (sym (at_once x xs e)) h

no_byte : is_inner_blank 0 ≡ false
unfolding is_inner_blank
no_byte = refl

-- no blank stands behind all blanks
pub first_behind : (bytes : List ℕ) → is_inner_blank (slice_index (behind_blanks bytes) 0) ≡ false
first_behind [] = subst (λ (ys : List ℕ). is_inner_blank (slice_index ys 0) ≡ false) (sym none_behind) no_byte
first_behind (x ∷ xs) = step (is_inner_blank x) refl (first_behind xs)
  where
    step : (b : Bool) → is_inner_blank x ≡ b → is_inner_blank (slice_index (behind_blanks xs) 0) ≡ false → is_inner_blank (slice_index (behind_blanks (x ∷ xs)) 0) ≡ false
    step true e more = subst (λ (ys : List ℕ). is_inner_blank (slice_index ys 0) ≡ false) (sym (past_blank x xs e)) more
    step false e more = subst (λ (ys : List ℕ). is_inner_blank (slice_index ys 0) ≡ false) (sym (at_once x xs e)) e

pub uncomment : {bytes : List ℕ} {n : ℕ} → IsComment bytes n → IsEmptyEnd bytes → IsEmptyEnd (drop n bytes)
uncomment {bytes} c (D.nothing is) = absurd (let e : slice_index bytes 0 ≡ 0 = ap (λ (xs : List ℕ). slice_index xs 0) is in omega (arith, c.slash))
uncomment c (D.blank b r) = no_blank_comment _ b c.slash
uncomment {bytes} c (D.comment d r) = subst (λ (i : ℕ). IsEmptyEnd (drop i bytes)) (one_comment d c) r

pub open_end : {bytes : List ℕ} → OpensComment bytes → ((n : ℕ) → IsComment bytes n → ⊥) → IsEmptyEnd bytes → ⊥
open_end {bytes} opens none (D.nothing is) = let e : slice_index bytes 0 ≡ 0 = ap (λ (xs : List ℕ). slice_index xs 0) is in omega (arith, opens.0)
open_end opens none (D.blank b r) = no_blank_comment _ b opens.0
open_end opens none (D.comment {n = n} c r) = none n c

pub full_end : {bytes : List ℕ} → (bytes ≡ [] → ⊥) → (OpensComment bytes → ⊥) → is_inner_blank (slice_index bytes 0) ≡ false → IsEmptyEnd bytes → ⊥
full_end some bare first (D.nothing is) = some is
full_end some bare first (D.blank b r) = cc (b, first)
full_end some bare first (D.comment c r) = bare (c.slash, c.star)
