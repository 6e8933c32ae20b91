-- Whole numbers that are no coordinates, by the order of unsigned numbers.
use Rattle.std.proofs.Common.{◌≡◌, ℕ, suc, ◌+◌, ◌-◌, ◌*◌, ◌%◌, ◌^◌, ◌<◌, ◌≤◌, lit<, Bool, true, false, cond, ltb, leb, max, min, ℤ, pos, negsuc, ◌+ℤ◌, List, [], ◌∷◌, length, refl, sym, ◌∙◌, ap, inl, inr, arith}
use Rattle.std.specs.Prelude.{int_lt, slice_index, unsigned_abs, ◌||◌}
use Rattle.std.proofs.lemmas.Int.{ints}
use Rattle.std.proofs.lemmas.Bool.{cases_lt, lt-ltb, le-ltb, lt-leb, le-leb, ltb-true}
use Rattle.std.proofs.Math.Nat.{mod-eq_of_lt, pow-le-pow_right}
use Rattle.cstar_base.specs.Numbers.{number_of}
use Rattle.cstar_base.proofs.NumberLaws.{number_in_lower, number_unsigned}
use Rattle.paris_code.specs.Checking.{any_leaves, is_outside}
use Rattle.paris_code.specs.declared.operands.GridStep.{GridStep}
use Rattle.paris_code.specs.Arguments.{konst_number, behind_konst}
use Rattle.paris_code.specs.Operands.{konst_of}
use Rattle.paris_code.specs.RuleSet.{axis_of}
use Rattle.vp_sets.specs.Positions.{coordinate}
use Rattle.elementwise.proofs.Orders.{upper}

outside_inside : (e x : ℕ) → x < e → is_outside e (pos x) ≡ false
unfolding is_outside
outside_inside e x h = ap (λ t. t || leb e x) (le-ltb x 0 (omega arith)) ∙ lt-leb e x h

outside_past : (e x : ℕ) → e ≤ x → is_outside e (pos x) ≡ true
unfolding is_outside
outside_past e x h = ap (λ t. t || leb e x) (le-ltb x 0 (omega arith)) ∙ le-leb e x h

outside_below : (e k : ℕ) → is_outside e (negsuc k) ≡ true
unfolding is_outside
outside_below e k = refl

-- the least number, taken as unsigned, of those that are no coordinates
abbrev pub least_outside : Bool → ℕ → ℕ → ℕ
least_outside signed n e = cond signed (min e (2 ^ (n - 1))) e

-- 1 where a number is outside, by whether it is below that one
pub outside_is : (signed : Bool) (n e x : ℕ) → x < 2 ^ n → ◌≡◌ {A = ℕ} (cond (ltb x (least_outside signed n e)) 0 1) (cond (is_outside e (number_of n signed x)) 1 0)
outside_is false n e x b = elim (cases_lt x e) [
  | inl l ↦ ap (λ t. cond t 0 1) (lt-ltb x e l) ∙ sym (ap (λ z. cond (is_outside e z) 1 0) (number_unsigned n x) ∙ ap (λ t. cond t 1 0) (outside_inside e x l))
  | inr g ↦ ap (λ t. cond t 0 1) (le-ltb x e g) ∙ sym (ap (λ z. cond (is_outside e z) 1 0) (number_unsigned n x) ∙ ap (λ t. cond t 1 0) (outside_past e x g))
]
outside_is true n e x b =
    let half : ℕ = 2 ^ (n - 1) in
    elim (cases_lt x half) [
      | inl low ↦ elim (cases_lt x e) [
        | inl l ↦ ap (λ t. cond t 0 1) (lt-ltb x (min e half) (omega (arith, low, l))) ∙ sym (ap (λ z. cond (is_outside e z) 1 0) (number_in_lower n x low) ∙ ap (λ t. cond t 1 0) (outside_inside e x l))
        | inr g ↦ ap (λ t. cond t 0 1) (le-ltb x (min e half) (omega (arith, low, g))) ∙ sym (ap (λ z. cond (is_outside e z) 1 0) (number_in_lower n x low) ∙ ap (λ t. cond t 1 0) (outside_past e x g))
      ]
      | inr high ↦ ap (λ t. cond t 0 1) (le-ltb x (min e half) (omega (arith, high)))
          ∙ sym (ap (λ z. cond (is_outside e z) 1 0) (upper n x b high) ∙ ap (λ t. cond t 1 0) (outside_below e (2 ^ n - 1 - x)))
    ]

-- 2 to less than 32, as a shift
pub one_shifted : (n : ℕ) → 1 ≤ n → n ≤ 32 → 1 * 2 ^ (n - 1) % 2 ^ 32 ≡ 2 ^ (n - 1)
one_shifted n some few =
    let most : 2 ^ (n - 1) ≤ 2 ^ 31 = pow-le-pow_right (lit< tt) (let q : n - 1 ≤ 31 = omega (arith, few) in q) in
    ap (λ k. k % 2 ^ 32) (let e : 1 * 2 ^ (n - 1) ≡ 2 ^ (n - 1) = omega arith in e) ∙ mod-eq_of_lt (omega (arith, most))

-- a step on from a coordinate, and one back
on_leaves : (e own by : ℕ) → ◌≡◌ {A = ℕ} (cond (ltb own (e - by)) 0 1) (cond (is_outside e (pos own +ℤ pos by)) 1 0)
on_leaves e own by = elim (cases_lt (own + by) e) [
  | inl l ↦ ap (λ t. cond t 0 1) (lt-ltb own (e - by) (omega (arith, l))) ∙ sym (ap (λ t. cond t 1 0) (outside_inside e (own + by) l))
  | inr g ↦ ap (λ t. cond t 0 1) (le-ltb own (e - by) (omega (arith, g))) ∙ sym (ap (λ t. cond t 1 0) (outside_past e (own + by) g))
]

back_leaves : (e own by : ℕ) → own < e → ◌≡◌ {A = ℕ} (1 - cond (ltb own (min (suc by) e)) 0 1) (cond (is_outside e (pos own +ℤ negsuc by)) 1 0)
back_leaves e own by inside = elim (cases_lt own (suc by)) [
  | inl l ↦
      ap (λ t. 1 - cond t 0 1) (lt-ltb own (min (suc by) e) (omega (arith, l, inside)))
      ∙ sym (ap (λ z. cond (is_outside e z) 1 0) (let q : pos own +ℤ negsuc by ≡ negsuc (by - own) = omega (arith, ints, l) in q) ∙ ap (λ t. cond t 1 0) (outside_below e (by - own)))
  | inr g ↦
      ap (λ t. 1 - cond t 0 1) (le-ltb own (min (suc by) e) (omega (arith, g)))
      ∙ sym (ap (λ z. cond (is_outside e z) 1 0) (let q : pos own +ℤ negsuc by ≡ pos (own - suc by) = omega (arith, ints, g) in q) ∙ ap (λ t. cond t 1 0) (outside_inside e (own - suc by) (omega (arith, inside))))
]

-- the same of steps either way
pub step_back : (e own : ℕ) (by : ℤ) (length : ℕ) → own < e → int_lt by (pos 0) ≡ true → length ≡ unsigned_abs by → ◌≡◌ {A = ℕ} (1 - cond (ltb own (min length e)) 0 1) (cond (is_outside e (pos own +ℤ by)) 1 0)
step_back e own (pos m) length inside back is = absurd (omega (arith, ltb-true m 0 back))
step_back e own (negsuc m) length inside back is = ap (λ n. 1 - cond (ltb own (min n e)) 0 1) is ∙ back_leaves e own m inside

pub step_on : (e own : ℕ) (by : ℤ) (length : ℕ) → int_lt by (pos 0) ≡ false → length ≡ unsigned_abs by → ◌≡◌ {A = ℕ} (cond (ltb own (e - length)) 0 1) (cond (is_outside e (pos own +ℤ by)) 1 0)
step_on e own (pos m) length on is = ap (λ n. cond (ltb own (e - n)) 0 1) is ∙ on_leaves e own m
step_on e own (negsuc m) length on is = cc

-- the flag of one of two
pub either_flag : (s t : Bool) → ◌≡◌ {A = ℕ} (max (cond s 1 0) (cond t 1 0)) (cond (s || t) 1 0)
either_flag true true = refl
either_flag true false = refl
either_flag false true = refl
either_flag false false = refl

-- and of the other of two
pub other_flag : (t : Bool) → ◌≡◌ {A = ℕ} (1 - cond t 1 0) (cond t 0 1)
other_flag true = refl
other_flag false = refl

-- one more step, and no more
pub leaves_none : (extents : List ℕ) (steps : List GridStep) (args : List ℕ) (p x : ℕ) → length steps ≡ 0 → x ≡ 0 → x ≡ cond (any_leaves extents steps args p) 1 0
leaves_none extents [] args p x none is = is
leaves_none extents (s ∷ rest) args p x none is = absurd (omega (arith, none))

pub leaves_one : (extents : List ℕ) (steps rest : List GridStep) (s : GridStep) (args : List ℕ) (p n here others all : ℕ) → steps ≡ s ∷ rest → n ≡ konst_number (konst_of s) args
    → here ≡ cond (is_outside (slice_index extents (axis_of s)) (pos (coordinate extents p (axis_of s)) +ℤ number_of 32 true n)) 1 0
    → others ≡ cond (any_leaves extents rest (behind_konst (konst_of s) args) p) 1 0 → all ≡ max here others → all ≡ cond (any_leaves extents steps args p) 1 0
leaves_one extents steps rest s args p n here others all are by is_here are_others is =
    is ∙ ap (λ x. max x others) (is_here ∙ ap (λ k. cond (is_outside (slice_index extents (axis_of s)) (pos (coordinate extents p (axis_of s)) +ℤ number_of 32 true k)) 1 0) by) ∙ ap (max _) are_others
    ∙ either_flag _ (any_leaves extents rest (behind_konst (konst_of s) args) p) ∙ ap (λ (ss : List GridStep). cond (any_leaves extents ss args p) 1 0) (sym are)
