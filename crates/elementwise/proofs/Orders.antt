-- The order of the kernels is that of the operators.
use Rattle.std.proofs.Common.{◌≡◌, ℕ, ◌+◌, ◌-◌, ◌%◌, ◌^◌, ◌<◌, ◌≤◌, Bool, true, false, cond, eqb, ltb, leb, ℤ, pos, negsuc, refl, sym, ◌∙◌, ap, inl, inr, arith}
use Rattle.std.specs.Prelude.{not, int_lt, int_le}
use Rattle.std.specs.Int.{int_max, from_bool}
use Rattle.std.proofs.lemmas.Int.{ints}
use Rattle.std.proofs.lemmas.Nat.{pow_pos}
use Rattle.std.proofs.lemmas.Bool.{cases_lt, lt-ltb, le-ltb, lt-leb, le-leb}
use Rattle.std.proofs.Math.Nat.{mod-eq_of_lt, add-mod_right}
use Rattle.cstar_base.specs.Numbers.{residue, number_of}
use Rattle.cstar_base.specs.Operators.{operand, is_below, is_at_most, lesser_of, greater_of, outcome}
use Rattle.cstar_base.specs.declared.operators.Op.TheVariants as O
use Rattle.cstar_base.proofs.NumberLaws.{number_in_lower, number_in_upper, number_unsigned, residue_of_number, two_halves}
use Rattle.paris_code.specs.declared.operands.Compare.{Compare}
use Rattle.paris_code.specs.Operators.{comparison_of}
use Rattle.lane_kernels.specs.Numbers.{place_of, is_less, least_of, greatest_of}

-- the upper half as numbers below 0
pub upper : (n x : ℕ) → x < 2 ^ n → 2 ^ (n - 1) ≤ x → number_of n true x ≡ negsuc (2 ^ n - 1 - x)
upper n x b h = number_in_upper n x h ∙ omega (arith, ints, b)

place_low : (n x : ℕ) → 1 ≤ n → x < 2 ^ (n - 1) → place_of false n x ≡ x + 2 ^ (n - 1)
place_low n x l h = mod-eq_of_lt (omega (arith, two_halves n l))

place_high : (n x : ℕ) → 1 ≤ n → x < 2 ^ n → 2 ^ (n - 1) ≤ x → place_of false n x ≡ x - 2 ^ (n - 1)
place_high n x l b h =
    ap (λ m. m % 2 ^ n) (let e : x + 2 ^ (n - 1) ≡ x - 2 ^ (n - 1) + 2 ^ n = omega (arith, two_halves n l) in e)
    ∙ add-mod_right (x - 2 ^ (n - 1)) (2 ^ n) ∙ mod-eq_of_lt (omega (arith, pow_pos (n - 1)))

same_tests : (a b c d : ℕ) → (a < b → c < d) → (b ≤ a → d ≤ c) → ltb a b ≡ ltb c d
same_tests a b c d below above = elim (cases_lt a b) [
  | inl l ↦ lt-ltb a b l ∙ sym (lt-ltb c d (below l))
  | inr g ↦ le-ltb a b g ∙ sym (le-ltb c d (above g))
]

below_signed : (n x y : ℕ) → 1 ≤ n → x < 2 ^ n → y < 2 ^ n → is_less false n x y ≡ int_lt (number_of n true x) (number_of n true y)
below_signed n x y l p q = elim (cases_lt x (2 ^ (n - 1))) [
  | inl xl ↦ elim (cases_lt y (2 ^ (n - 1))) [
    | inl yl ↦
        ap (λ k. ltb k (place_of false n y)) (place_low n x l xl) ∙ ap (λ k. ltb (x + 2 ^ (n - 1)) k) (place_low n y l yl)
        ∙ same_tests (x + 2 ^ (n - 1)) (y + 2 ^ (n - 1)) x y (λ h. omega arith) (λ h. omega arith)
        ∙ sym (ap (λ z. int_lt z (number_of n true y)) (number_in_lower n x xl) ∙ ap (λ z. int_lt (pos x) z) (number_in_lower n y yl))
    | inr yh ↦
        ap (λ k. ltb k (place_of false n y)) (place_low n x l xl) ∙ ap (λ k. ltb (x + 2 ^ (n - 1)) k) (place_high n y l q yh)
        ∙ le-ltb (x + 2 ^ (n - 1)) (y - 2 ^ (n - 1)) (omega (arith, two_halves n l))
        ∙ sym (ap (λ z. int_lt z (number_of n true y)) (number_in_lower n x xl) ∙ ap (λ z. int_lt (pos x) z) (upper n y q yh))
  ]
  | inr xh ↦ elim (cases_lt y (2 ^ (n - 1))) [
    | inl yl ↦
        ap (λ k. ltb k (place_of false n y)) (place_high n x l p xh) ∙ ap (λ k. ltb (x - 2 ^ (n - 1)) k) (place_low n y l yl)
        ∙ lt-ltb (x - 2 ^ (n - 1)) (y + 2 ^ (n - 1)) (omega (arith, two_halves n l))
        ∙ sym (ap (λ z. int_lt z (number_of n true y)) (upper n x p xh) ∙ ap (λ z. int_lt (negsuc (2 ^ n - 1 - x)) z) (number_in_lower n y yl))
    | inr yh ↦
        ap (λ k. ltb k (place_of false n y)) (place_high n x l p xh) ∙ ap (λ k. ltb (x - 2 ^ (n - 1)) k) (place_high n y l q yh)
        ∙ same_tests (x - 2 ^ (n - 1)) (y - 2 ^ (n - 1)) (2 ^ n - 1 - y) (2 ^ n - 1 - x) (λ h. omega (arith, two_halves n l)) (λ h. omega (arith, two_halves n l))
        ∙ sym (ap (λ z. int_lt z (number_of n true y)) (upper n x p xh) ∙ ap (λ z. int_lt (negsuc (2 ^ n - 1 - x)) z) (upper n y q yh))
  ]
]

pub below_is : (unsigned : Bool) (n x y : ℕ) → 1 ≤ n → x < 2 ^ n → y < 2 ^ n → is_less unsigned n x y ≡ is_below n unsigned x y
unfolding is_below operand
below_is true n x y l p q = sym (ap (λ z. int_lt z (number_of n false y)) (number_unsigned n x) ∙ ap (λ z. int_lt (pos x) z) (number_unsigned n y))
below_is false n x y l p q = below_signed n x y l p q

not_over : (a b : ℕ) → leb a b ≡ not (ltb b a)
not_over a b = elim (cases_lt b a) [
  | inl l ↦ lt-leb a b l ∙ sym (ap not (lt-ltb b a l))
  | inr g ↦ le-leb a b g ∙ sym (ap not (le-ltb b a g))
]

not_above : (a b : ℤ) → int_le a b ≡ not (int_lt b a)
not_above (pos a) (pos b) = not_over a b
not_above (pos a) (negsuc b) = refl
not_above (negsuc a) (pos b) = refl
not_above (negsuc a) (negsuc b) = not_over b a

pub at_most_is : (unsigned : Bool) (n x y : ℕ) → 1 ≤ n → x < 2 ^ n → y < 2 ^ n → not (is_less unsigned n y x) ≡ is_at_most n unsigned x y
unfolding is_below is_at_most
at_most_is unsigned n x y l p q = ap not (below_is unsigned n y x l q p) ∙ sym (not_above (operand n unsigned x) (operand n unsigned y))

chosen : (n x y : ℕ) (unsigned : Bool) (t : Bool) → x < 2 ^ n → y < 2 ^ n → cond t x y ≡ residue n (cond t (operand n unsigned x) (operand n unsigned y))
unfolding operand
chosen n x y unsigned true p q = sym (residue_of_number n (not unsigned) x p)
chosen n x y unsigned false p q = sym (residue_of_number n (not unsigned) y q)

pub least_is : (unsigned : Bool) (n x y : ℕ) → 1 ≤ n → x < 2 ^ n → y < 2 ^ n → least_of unsigned n x y ≡ lesser_of n unsigned x y
unfolding lesser_of is_below
least_is unsigned n x y l p q = ap (λ t. cond t y x) (below_is unsigned n y x l q p) ∙ chosen n y x unsigned _ q p

either : (a b : ℕ) (u v : ℤ) → (a ≡ b → u ≡ v) → cond (ltb a b) u v ≡ cond (ltb b a) v u
either a b u v same = elim (cases_lt a b) [
  | inl l ↦ ap (λ t. cond t u v) (lt-ltb a b l) ∙ sym (ap (λ t. cond t v u) (le-ltb b a (omega arith)))
  | inr g ↦ elim (cases_lt b a) [
    | inl l ↦ ap (λ t. cond t u v) (le-ltb a b g) ∙ sym (ap (λ t. cond t v u) (lt-ltb b a l))
    | inr h ↦ ap (λ t. cond t u v) (le-ltb a b g) ∙ sym (same (omega arith)) ∙ sym (ap (λ t. cond t v u) (le-ltb b a h))
  ]
]

greater_int : (a b : ℤ) → int_max a b ≡ cond (int_lt a b) b a
greater_int (pos a) (pos b) = either b a (pos a) (pos b) (λ e. ap pos (sym e))
greater_int (pos a) (negsuc b) = refl
greater_int (negsuc a) (pos b) = refl
greater_int (negsuc a) (negsuc b) = either a b (negsuc a) (negsuc b) (ap negsuc)

pub greatest_is : (unsigned : Bool) (n x y : ℕ) → 1 ≤ n → x < 2 ^ n → y < 2 ^ n → greatest_of unsigned n x y ≡ greater_of n unsigned x y
unfolding greater_of is_below
greatest_is unsigned n x y l p q =
    ap (λ t. cond t y x) (below_is unsigned n x y l p q) ∙ chosen n y x unsigned _ q p
    ∙ sym (ap (residue n) (greater_int (operand n unsigned x) (operand n unsigned y)))

-- a flag by the kernels
pub held : (r known : Compare) (n x y v w : ℕ) → r ≡ known → v ≡ w → w ≡ outcome (comparison_of known).0 n (comparison_of known).1 x y → v ≡ outcome (comparison_of r).0 n (comparison_of r).1 x y
held r known n x y v w e f g = f ∙ g ∙ ap (λ q. outcome (comparison_of q).0 n (comparison_of q).1 x y) (sym e)

flag : (t : Bool) → cond t 1 0 ≡ from_bool t
flag true = refl
flag false = refl

no_flag : (t : Bool) → 1 - cond t 1 0 ≡ from_bool (not t)
no_flag true = refl
no_flag false = refl

pub equal_flag : (n x y : ℕ) → cond (eqb x y) 1 0 ≡ outcome O.Eq n true x y
unfolding outcome
equal_flag n x y = flag (eqb x y)

pub differ_flag : (n x y : ℕ) → 1 - cond (eqb x y) 1 0 ≡ outcome O.Ne n true x y
unfolding outcome
differ_flag n x y = no_flag (eqb x y)

module _ (unsigned : Bool) (n x y : ℕ) (l : 1 ≤ n) (p : x < 2 ^ n) (q : y < 2 ^ n) where
  pub below_flag : cond (is_less unsigned n x y) 1 0 ≡ outcome O.Lt n unsigned x y
  unfolding outcome
  below_flag = flag (is_less unsigned n x y) ∙ ap from_bool (below_is unsigned n x y l p q)

  pub above_flag : cond (is_less unsigned n y x) 1 0 ≡ outcome O.Gt n unsigned x y
  unfolding outcome
  above_flag = flag (is_less unsigned n y x) ∙ ap from_bool (below_is unsigned n y x l q p)

  pub at_most_flag : 1 - cond (is_less unsigned n y x) 1 0 ≡ outcome O.Le n unsigned x y
  unfolding outcome
  at_most_flag = no_flag (is_less unsigned n y x) ∙ ap from_bool (at_most_is unsigned n x y l p q)

  pub at_least_flag : 1 - cond (is_less unsigned n x y) 1 0 ≡ outcome O.Ge n unsigned x y
  unfolding outcome
  at_least_flag = no_flag (is_less unsigned n x y) ∙ ap from_bool (at_most_is unsigned n y x l q p)
