-- One step of a fold, on words of 32 bits and on the cells that stand for them.
use Rattle.std.proofs.Common.{◌≡◌, ℕ, suc, ◌+◌, ◌-◌, ◌%◌, ◌^◌, ◌<◌, ◌≤◌, min, max, Bool, true, false, cond, nat_lt, nat_le, ℤ, pos, negsuc, ◌-ℤ◌, int_lt, bit_and, bit_or, bit_xor, refl, sym, ap, ap₂, ◌∙◌, ⊎_elim, mod-eq_of_lt, subst, arith}
use Rattle.std.proofs.lemmas.Bool.{cases_lt, cond-true, cond-false, lt-ltb, le-ltb, le-leb, lt-leb}
use Rattle.std.proofs.lemmas.Int.{ints}
use Rattle.cstar_base.specs.declared.operators.Combiner.TheVariants as combiner
use Rattle.cstar_base.specs.Numbers.{residue, number_of}
use Rattle.cstar_base.specs.Operators.{operand, sum_of, lesser_of, greater_of}
use Rattle.cstar_base.specs.Folds.{fold_once}
use Rattle.combine_core.specs.Encodings.{moved}

pub sum_is : (a v : ℕ) → fold_once combiner.Add true a v ≡ (a + v) % 2 ^ 32
unfolding fold_once sum_of operand number_of residue
sum_is a v = refl

pub and_is : (a v : ℕ) → fold_once combiner.And true a v ≡ bit_and a v
unfolding fold_once
and_is a v = refl

pub or_is : (a v : ℕ) → fold_once combiner.Or true a v ≡ bit_or a v
unfolding fold_once
or_is a v = refl

pub xor_is : (a v : ℕ) → fold_once combiner.Xor true a v ≡ bit_xor a v
unfolding fold_once
xor_is a v = refl

pub last_is : (a v : ℕ) → fold_once combiner.Last true a v ≡ v
unfolding fold_once
last_is a v = refl

pub min_is : (unsigned : Bool) (a v : ℕ) → fold_once combiner.Min unsigned a v ≡ lesser_of 32 unsigned a v
unfolding fold_once
min_is unsigned a v = refl

pub max_is : (unsigned : Bool) (a v : ℕ) → fold_once combiner.Max unsigned a v ≡ greater_of 32 unsigned a v
unfolding fold_once
max_is unsigned a v = refl

-- the word that is read back from the number of a word
residue_pos : (a : ℕ) → a < 2 ^ 32 → residue 32 (pos a) ≡ a
unfolding residue
residue_pos a h = mod-eq_of_lt h

residue_negsuc : (n : ℕ) → n < 2 ^ 32 → residue 32 (negsuc n) ≡ 2 ^ 32 - 1 - n
unfolding residue
residue_negsuc n h = ap (λ (x : ℕ). 2 ^ 32 - 1 - x) (mod-eq_of_lt h)

-- of two numbers, the first where the test passes
picked : (b : Bool) (x y : ℤ) (a v : ℕ) → residue 32 x ≡ a → residue 32 y ≡ v → residue 32 (cond b x y) ≡ cond b a v
picked true x y a v p q = p
picked false x y a v p q = q

lesser : (a v : ℕ) → cond (nat_lt v a) v a ≡ min a v
lesser a v = ⊎_elim (λ (h : v < a). cond-true (nat_lt v a) v a (lt-ltb v a h) ∙ omega arith) (λ (h : a ≤ v). cond-false (nat_lt v a) v a (le-ltb v a h) ∙ omega arith) (cases_lt v a)

greater : (a v : ℕ) → cond (nat_lt v a) a v ≡ max a v
greater a v = ⊎_elim (λ (h : v < a). cond-true (nat_lt v a) a v (lt-ltb v a h) ∙ omega arith) (λ (h : a ≤ v). cond-false (nat_lt v a) a v (le-ltb v a h) ∙ omega arith) (cases_lt v a)

pub lesser_unsigned : (a v : ℕ) → a < 2 ^ 32 → v < 2 ^ 32 → lesser_of 32 true a v ≡ min a v
unfolding lesser_of operand number_of
lesser_unsigned a v p q = picked (nat_lt v a) (pos v) (pos a) v a (residue_pos v q) (residue_pos a p) ∙ lesser a v

pub greater_unsigned : (a v : ℕ) → a < 2 ^ 32 → v < 2 ^ 32 → greater_of 32 true a v ≡ max a v
unfolding greater_of operand number_of
greater_unsigned a v p q = picked (nat_lt v a) (pos a) (pos v) a v (residue_pos a p) (residue_pos v q) ∙ greater a v

-- the number of a word in two's complement, by its upper half
signed_low : (a : ℕ) → a < 2 ^ 31 → operand 32 false a ≡ pos a
unfolding operand number_of
signed_low a h = cond-false (nat_le (2 ^ 31) a) _ _ (lt-leb (2 ^ 31) a h)

take_away : (a n : ℕ) → a + suc n ≡ 2 ^ 32 → pos a -ℤ pos (2 ^ 32) ≡ negsuc n
take_away a n h = omega (arith, ints)

signed_high : (a : ℕ) → 2 ^ 31 ≤ a → a < 2 ^ 32 → operand 32 false a ≡ negsuc (2 ^ 32 - 1 - a)
unfolding operand number_of
signed_high a h p = cond-true (nat_le (2 ^ 31) a) _ _ (le-leb (2 ^ 31) a h) ∙ take_away a (2 ^ 32 - 1 - a) (omega arith)

residue_signed : (a : ℕ) → a < 2 ^ 32 → residue 32 (operand 32 false a) ≡ a
residue_signed a p =
    ⊎_elim
    (λ (h : a < 2 ^ 31). ap (residue 32) (signed_low a h) ∙ residue_pos a p)
    (λ (h : 2 ^ 31 ≤ a). ap (residue 32) (signed_high a h p) ∙ residue_negsuc (2 ^ 32 - 1 - a) (omega arith) ∙ omega arith)
    (cases_lt a (2 ^ 31))

-- the order of the numbers is the order of the moved words
signed_below : (a v : ℕ) → a < 2 ^ 32 → v < 2 ^ 32 → int_lt (operand 32 false v) (operand 32 false a) ≡ nat_lt (moved v) (moved a)
signed_below a v p q =
    ⊎_elim
    (λ (h : a < 2 ^ 31).
    ⊎_elim
    (λ (k : v < 2 ^ 31). ap₂ int_lt (signed_low v k) (signed_low a h) ∙ same_below v a (moved v) (moved a) (2 ^ 31) (omega arith) (omega arith))
    (λ (k : 2 ^ 31 ≤ v). ap₂ int_lt (signed_high v k q) (signed_low a h) ∙ sym (lt-ltb (moved v) (moved a) (omega arith)))
    (cases_lt v (2 ^ 31)))
    (λ (h : 2 ^ 31 ≤ a).
    ⊎_elim
    (λ (k : v < 2 ^ 31). ap₂ int_lt (signed_low v k) (signed_high a h p) ∙ sym (le-ltb (moved v) (moved a) (omega arith)))
    (λ (k : 2 ^ 31 ≤ v). ap₂ int_lt (signed_high v k q) (signed_high a h p) ∙ turned_below v a (moved v) (moved a) (omega arith) (omega arith) (omega arith) (omega arith))
    (cases_lt v (2 ^ 31)))
    (cases_lt a (2 ^ 31))
  where
    same_below : (x y m n c : ℕ) → m ≡ x + c → n ≡ y + c → nat_lt x y ≡ nat_lt m n
    same_below x y m n c e f = ⊎_elim (λ (h : x < y). lt-ltb x y h ∙ sym (lt-ltb m n (omega arith))) (λ (h : y ≤ x). le-ltb x y h ∙ sym (le-ltb m n (omega arith))) (cases_lt x y)

    turned_below : (x y m n : ℕ) → x < 2 ^ 32 → y < 2 ^ 32 → x ≡ m + 2 ^ 31 → y ≡ n + 2 ^ 31 → nat_lt (2 ^ 32 - 1 - y) (2 ^ 32 - 1 - x) ≡ nat_lt m n
    turned_below x y m n p q e f = ⊎_elim (λ (h : x < y). lt-ltb _ _ (omega arith) ∙ sym (lt-ltb m n (omega arith))) (λ (h : y ≤ x). le-ltb _ _ (omega arith) ∙ sym (le-ltb m n (omega arith))) (cases_lt x y)

moved_choice : (b : Bool) (a v : ℕ) → moved (cond b a v) ≡ cond b (moved a) (moved v)
moved_choice true a v = refl
moved_choice false a v = refl

choice_below : (b : Bool) (a v : ℕ) → a < 2 ^ 32 → v < 2 ^ 32 → cond b a v < 2 ^ 32
choice_below true a v p q = p
choice_below false a v p q = q

pub lesser_signed : (a v : ℕ) → a < 2 ^ 32 → v < 2 ^ 32 → (moved (lesser_of 32 false a v) ≡ min (moved a) (moved v)) × (lesser_of 32 false a v < 2 ^ 32)
unfolding lesser_of
lesser_signed a v p q =
    let test : Bool = int_lt (operand 32 false v) (operand 32 false a) in
    let e : residue 32 (cond test (operand 32 false v) (operand 32 false a)) ≡ cond test v a = picked test (operand 32 false v) (operand 32 false a) v a (residue_signed v q) (residue_signed a p) in (
      ap moved e ∙ moved_choice test v a ∙ ap (λ (b : Bool). cond b (moved v) (moved a)) (signed_below a v p q) ∙ lesser (moved a) (moved v),
      subst (λ (x : ℕ). x < 2 ^ 32) (sym e) (choice_below test v a q p),
    )

pub greater_signed : (a v : ℕ) → a < 2 ^ 32 → v < 2 ^ 32 → (moved (greater_of 32 false a v) ≡ max (moved a) (moved v)) × (greater_of 32 false a v < 2 ^ 32)
unfolding greater_of
greater_signed a v p q =
    let test : Bool = int_lt (operand 32 false v) (operand 32 false a) in
    let e : residue 32 (cond test (operand 32 false a) (operand 32 false v)) ≡ cond test a v = picked test (operand 32 false a) (operand 32 false v) a v (residue_signed a p) (residue_signed v q) in (
      ap moved e ∙ moved_choice test a v ∙ ap (λ (b : Bool). cond b (moved a) (moved v)) (signed_below a v p q) ∙ greater (moved a) (moved v),
      subst (λ (x : ℕ). x < 2 ^ 32) (sym e) (choice_below test a v p q),
    )
