-- Whether an instruction behind a place names an entry.
use Rattle.std.proofs.Common.{◌≡◌, ℕ, zero, suc, ◌<◌, ◌⊎◌, inl, inr, List, [], ◌∷◌, Any, length, slice_get, Some, refl, sym, ap, ◌∙◌, subst, arith}
use Rattle.std.specs.List.{slice_index_or}
use Rattle.std.proofs.lemmas.Bool.{cases_eq}
use Rattle.paris_code.specs.declared.instr.Instr.{Instr}
use Rattle.paris_code.specs.declared.operands.Field.{Field}
use Rattle.paris_code.specs.declared.program.Unit.{Unit as CodeUnit}
use Rattle.paris_code.specs.Spans.{IsNamedAt, entry_of, fields_of}
use Rattle.code_follows.proofs.Standing.{some_same}

module _ (entry : ℕ) where
  abbrev IsOneOf : List Field → Type 0
  IsOneOf fields = Any (λ (f : Field). entry_of f ≡ entry) fields

  -- fields name it, or none does
  either_of : (fields : List Field) → IsOneOf fields ⊎ (IsOneOf fields → ⊥)
  either_of [] = inr (λ any. let low = any.2 in absurd (omega (arith, low)))
  either_of (f ∷ fields) = by (cases_eq f.offset entry) (either_of fields)
    where
      by : (f.offset ≡ entry) ⊎ (f.offset ≡ entry → ⊥) → IsOneOf fields ⊎ (IsOneOf fields → ⊥) → IsOneOf (f ∷ fields) ⊎ (IsOneOf (f ∷ fields) → ⊥)
      by (inl same) rest = inl (0, f, omega arith, refl, same)
      by (inr differ) (inl any) = inl (suc any.0, any.1, more (length fields) any.2, any.3, any.4)
        where
          more : (n : ℕ) → any.0 < n → suc any.0 < suc n
          more n h = omega (arith, h)
      by (inr differ) (inr none) = inr (λ any. not_there any.0 any.1 any.2 any.3 any.4)
        where
          less : (k n : ℕ) → suc k < suc n → k < n
          less k n h = omega (arith, h)

          not_there : (k : ℕ) (x : Field) → k < length (f ∷ fields) → slice_index_or (f ∷ fields) k x ≡ x → entry_of x ≡ entry → ⊥
          not_there zero x low is named = differ (ap (λ (y : Field). y.offset) is ∙ named)
          not_there (suc k) x low is named = none (k, x, less k (length fields) low, is, named)

  -- an instruction of code names it
  abbrev IsNamedIn : List Instr → ℕ → Type 0
  IsNamedIn code at = (instr : Instr) × (slice_get code at ≡ Some instr) × IsOneOf (fields_of instr)

  somewhere_or_never : (code : List Instr) → ((at : ℕ) × IsNamedIn code at) ⊎ ((at : ℕ) → IsNamedIn code at → ⊥)
  somewhere_or_never [] = inr (λ at named. let is = named.1 in cc)
  somewhere_or_never (i ∷ code) = by (either_of (fields_of i)) (somewhere_or_never code)
    where
      by : IsOneOf (fields_of i) ⊎ (IsOneOf (fields_of i) → ⊥) → ((at : ℕ) × IsNamedIn code at) ⊎ ((at : ℕ) → IsNamedIn code at → ⊥) → ((at : ℕ) × IsNamedIn (i ∷ code) at) ⊎ ((at : ℕ) → IsNamedIn (i ∷ code) at → ⊥)
      by (inl here) rest = inl (0, (i, refl, here))
      by (inr none) (inl later) = inl (suc later.0, later.1)
      by (inr none) (inr never) = inr (λ at named. not_there at named)
        where
          not_there : (at : ℕ) → IsNamedIn (i ∷ code) at → ⊥
          not_there zero named = none (subst (λ (j : Instr). IsOneOf (fields_of j)) (some_same named.0 i (sym named.1)) named.2)
          not_there (suc at) named = never at named

  behind_or_never : (code : List Instr) (at : ℕ) → ((later : ℕ) × ((at < later) × IsNamedIn code later)) ⊎ ((later : ℕ) → at < later → IsNamedIn code later → ⊥)
  behind_or_never [] at = inr (λ later behind named. let is = named.1 in cc)
  behind_or_never (i ∷ code) zero = by (somewhere_or_never code)
    where
      by : ((at : ℕ) × IsNamedIn code at) ⊎ ((at : ℕ) → IsNamedIn code at → ⊥) → ((later : ℕ) × ((zero < later) × IsNamedIn (i ∷ code) later)) ⊎ ((later : ℕ) → zero < later → IsNamedIn (i ∷ code) later → ⊥)
      by (inl there) = inl (suc there.0, (omega arith, there.1))
      by (inr never) = inr (λ later behind named. not_there later behind named)
        where
          not_there : (later : ℕ) → zero < later → IsNamedIn (i ∷ code) later → ⊥
          not_there zero behind named = absurd (omega (arith, behind))
          not_there (suc later) behind named = never later named
  behind_or_never (i ∷ code) (suc at) = by (behind_or_never code at)
    where
      by : ((later : ℕ) × ((at < later) × IsNamedIn code later)) ⊎ ((later : ℕ) → at < later → IsNamedIn code later → ⊥) → ((later : ℕ) × ((suc at < later) × IsNamedIn (i ∷ code) later)) ⊎ ((later : ℕ) → suc at < later → IsNamedIn (i ∷ code) later → ⊥)
      by (inl there) = inl (suc there.0, (let behind = there.1.0 in omega (arith, behind), there.1.1))
      by (inr never) = inr (λ later behind named. not_there later behind named)
        where
          not_there : (later : ℕ) → suc at < later → IsNamedIn (i ∷ code) later → ⊥
          not_there zero behind named = absurd (omega (arith, behind))
          not_there (suc later) behind named = never later (omega (arith, behind)) named

-- it is named behind the place, or never again
pub named_again : (unit : CodeUnit) (entry at : ℕ) → ((later : ℕ) × ((at < later) × IsNamedAt unit entry later)) ⊎ ((later : ℕ) → at < later → IsNamedAt unit entry later → ⊥)
named_again unit entry at = behind_or_never entry unit.code.items at
