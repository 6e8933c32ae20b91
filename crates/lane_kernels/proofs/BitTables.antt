-- One bit of a gate or a comparison, case by case.
use Rattle.std.proofs.Common.{◌≡◌, ◌≢◌, ℕ, suc, zero, ◌+◌, ◌-◌, ◌*◌, ◌/◌, ◌%◌, ◌<◌, min, cond, nat_lt, nat_eq, Bool, true, false, refl, sym, ◌∙◌, ap, inl, inr, arith}
use Rattle.std.proofs.lemmas.Bool.{cases_lt, cases_eq, lt-ltb, le-ltb, eq-eqb}
use Rattle.std.proofs.lemmas.Bool.Decides.{eqb_tells}

ne-eqb : (a b : ℕ) → a ≢ b → nat_eq a b ≡ false
ne-eqb a b n = elim (eqb_tells a b) [ inl t ↦ absurd (n t.1) | inr f ↦ f.0 ]

same_order : (p x y : ℕ) → nat_lt (1 * p + x) (1 * p + y) ≡ nat_lt x y
same_order p x y = elim (cases_lt x y) [
  | inl l ↦ lt-ltb (1 * p + x) (1 * p + y) (omega arith) ∙ sym (lt-ltb x y l)
  | inr g ↦ le-ltb (1 * p + x) (1 * p + y) (omega arith) ∙ sym (le-ltb x y g)
]

none_above : (p x : ℕ) → 0 * p + x ≡ x
none_above p x = omega arith

-- the order of two numbers by their next bits
pub less_step : (p a b x y : ℕ) → a < 2 → b < 2 → x < p → y < p
    → cond (nat_lt (a * p + x) (b * p + y)) 1 0 ≡ cond (nat_eq a b) (cond (nat_lt x y) 1 0) b
less_step p zero zero x y ab bb xb yb = ap (λ m. cond (nat_lt m (0 * p + y)) 1 0) (none_above p x) ∙ ap (λ m. cond (nat_lt x m) 1 0) (none_above p y)
less_step p zero (suc zero) x y ab bb xb yb = ap (λ (t : Bool). cond t 1 0) (lt-ltb (0 * p + x) (1 * p + y) (omega arith))
less_step p (suc zero) zero x y ab bb xb yb = ap (λ (t : Bool). cond t 1 0) (le-ltb (1 * p + x) (0 * p + y) (omega arith))
less_step p (suc zero) (suc zero) x y ab bb xb yb = ap (λ (t : Bool). cond t 1 0) (same_order p x y)
less_step p (suc (suc a)) b x y ab bb xb yb = absurd (omega arith)
less_step p zero (suc (suc b)) x y ab bb xb yb = absurd (omega arith)
less_step p (suc zero) (suc (suc b)) x y ab bb xb yb = absurd (omega arith)

same_equality : (p x y : ℕ) → nat_eq (1 * p + x) (1 * p + y) ≡ nat_eq x y
same_equality p x y = elim (cases_eq x y) [
  | inl e ↦ eq-eqb (1 * p + x) (1 * p + y) (omega arith) ∙ sym (eq-eqb x y e)
  | inr n ↦ ne-eqb (1 * p + x) (1 * p + y) (λ e. n (omega arith)) ∙ sym (ne-eqb x y n)
]

all_or_none : (t : Bool) → cond t 1 0 ≡ min (cond t 1 0) 1
all_or_none true = refl
all_or_none false = refl

none_of : (t : Bool) → ◌≡◌ {A = ℕ} 0 (min (cond t 1 0) 0)
none_of true = refl
none_of false = refl

-- whether two numbers are equal, by their next bits
pub equal_step : (p a b x y : ℕ) → a < 2 → b < 2 → x < p → y < p
    → cond (nat_eq (a * p + x) (b * p + y)) 1 0 ≡ min (cond (nat_eq x y) 1 0) (1 - (a + b) % 2)
equal_step p zero zero x y ab bb xb yb =
    ap (λ m. cond (nat_eq m (0 * p + y)) 1 0) (none_above p x) ∙ ap (λ m. cond (nat_eq x m) 1 0) (none_above p y) ∙ all_or_none (nat_eq x y)
equal_step p zero (suc zero) x y ab bb xb yb = ap (λ (t : Bool). cond t 1 0) (ne-eqb (0 * p + x) (1 * p + y) (λ e. absurd (omega arith))) ∙ none_of (nat_eq x y)
equal_step p (suc zero) zero x y ab bb xb yb = ap (λ (t : Bool). cond t 1 0) (ne-eqb (1 * p + x) (0 * p + y) (λ e. absurd (omega arith))) ∙ none_of (nat_eq x y)
equal_step p (suc zero) (suc zero) x y ab bb xb yb = ap (λ (t : Bool). cond t 1 0) (same_equality p x y) ∙ all_or_none (nat_eq x y)
equal_step p (suc (suc a)) b x y ab bb xb yb = absurd (omega arith)
equal_step p zero (suc (suc b)) x y ab bb xb yb = absurd (omega arith)
equal_step p (suc zero) (suc (suc b)) x y ab bb xb yb = absurd (omega arith)

-- gates of bits
pub carry_gate : (a b c : ℕ) → a < 2 → b < 2 → c < 2 → (c + min ((a + c) % 2) ((b + c) % 2)) % 2 ≡ (a + b + c) / 2
carry_gate a b c ab bb cb = omega arith

pub choice_gate : (m a b : ℕ) → m < 2 → a < 2 → b < 2 → (b + min m ((a + b) % 2)) % 2 ≡ cond (nat_eq m 1) a b
choice_gate zero a b mb ab bb = omega arith
choice_gate (suc zero) a b mb ab bb = omega arith
choice_gate (suc (suc m)) a b mb ab bb = absurd (omega arith)

pub decided_gate : (x y below : ℕ) → x < 2 → y < 2 → cond (nat_eq ((x + y) % 2) 1) y below ≡ cond (nat_eq x y) below y
decided_gate zero zero below xb yb = refl
decided_gate zero (suc zero) below xb yb = refl
decided_gate (suc zero) zero below xb yb = refl
decided_gate (suc zero) (suc zero) below xb yb = refl
decided_gate (suc (suc x)) y below xb yb = absurd (omega arith)
decided_gate zero (suc (suc y)) below xb yb = absurd (omega arith)
decided_gate (suc zero) (suc (suc y)) below xb yb = absurd (omega arith)
