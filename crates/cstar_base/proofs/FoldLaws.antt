-- Laws of the combiners.
use Rattle.std.proofs.Common.{ℕ, zero, suc, ◌≡◌, ◌<◌, ◌+◌, ◌-◌, ◌/◌, ◌^◌, ◌%◌, Bool, true, false, not, cond, ℤ, pos, ◌+ℤ◌, ◌≤ℤ◌, refl, sym, ap, ◌∙◌, arith}
use Rattle.std.specs.Prelude.{int_lt}
use Rattle.std.specs.Int.{int_min, int_max}
use Rattle.std.specs.Int.Bits.{bit_or, xor_assoc}
use Rattle.std.proofs.lemmas.Int.{ints, clamps}
use Rattle.std.proofs.lemmas.Nat.{and_comm, or_comm, xor_comm, or_shr, or_mod, and_assoc, and_mask, and_le_l, or_of_32, xor_of_32}
use Rattle.std.proofs.Math.Nat.{mod-eq_of_lt, add-mod-mod, pow-suc}
use Rattle.cstar_base.specs.Numbers.{residue, number_of, least_of, greatest_of}
use Rattle.cstar_base.specs.Operators.{operand, sum_of, lesser_of, greater_of}
use Rattle.cstar_base.specs.Folds.{fold_once, identity_of}
use Rattle.cstar_base.specs.declared.operators.Combiner.{Combiner}
use Rattle.cstar_base.specs.declared.operators.Combiner.TheVariants.{Add, And, Or, Xor, Min, Max, Last}
use Rattle.cstar_base.proofs.NumberLaws.{residue_below, residue_of_number, number_at_least, number_at_most}
use Rattle.cstar_base.proofs.OperatorLaws.{sum_by_residues}

-- a word has the residue of the number that it stands for
pub residue_of_operand : (unsigned : Bool) (v : ℕ) → v < 2 ^ 32 → residue 32 (operand 32 unsigned v) ≡ v
unfolding operand
residue_of_operand unsigned v h = residue_of_number 32 (not unsigned) v h

pub least_operand : (unsigned : Bool) (v : ℕ) → least_of 32 (not unsigned) ≤ℤ operand 32 unsigned v
unfolding operand
least_operand unsigned v = number_at_least 32 (not unsigned) v (omega arith)

pub greatest_operand : (unsigned : Bool) (v : ℕ) → v < 2 ^ 32 → operand 32 unsigned v ≤ℤ greatest_of 32 (not unsigned)
unfolding operand
greatest_operand unsigned v h = number_at_most 32 (not unsigned) v (omega arith) h

zero_operand : (unsigned : Bool) → operand 32 unsigned 0 ≡ pos 0
unfolding operand number_of
zero_operand true = refl
zero_operand false = refl

greatest_as_operand : (unsigned : Bool) → operand 32 unsigned (residue 32 (greatest_of 32 (not unsigned))) ≡ greatest_of 32 (not unsigned)
unfolding operand number_of residue greatest_of
greatest_as_operand true = refl
greatest_as_operand false = refl

least_as_operand : (unsigned : Bool) → operand 32 unsigned (residue 32 (least_of 32 (not unsigned))) ≡ least_of 32 (not unsigned)
unfolding operand number_of residue least_of
least_as_operand true = refl
least_as_operand false = refl

min_right : (x y : ℤ) → y ≤ℤ x → int_min x y ≡ y
min_right x y h = omega (arith, ints, clamps)

max_right : (x y : ℤ) → x ≤ℤ y → int_max x y ≡ y
max_right x y h = omega (arith, ints, clamps)

zero_first : (z : ℤ) → pos 0 +ℤ z ≡ z
zero_first z = omega (arith, ints)

-- the fold of no value changes nothing as the value so far
pub identity_first : (c : Combiner) (unsigned : Bool) (v : ℕ) → v < 2 ^ 32 → fold_once c unsigned (identity_of c unsigned) v ≡ v
unfolding fold_once identity_of sum_of lesser_of greater_of
identity_first Add u v h =
    ap (λ z. residue 32 (z +ℤ operand 32 u v)) (zero_operand u) ∙ ap (residue 32) (zero_first (operand 32 u v)) ∙ residue_of_operand u v h
identity_first And u v h = and_comm (2 ^ 32 - 1) v ∙ and_mask v 32 ∙ mod-eq_of_lt h
identity_first Or u v h = refl
identity_first Xor u v h = refl
identity_first Min u v h =
    ap (λ z. residue 32 (int_min z (operand 32 u v))) (greatest_as_operand u)
    ∙ ap (residue 32) (min_right (greatest_of 32 (not u)) (operand 32 u v) (greatest_operand u v h))
    ∙ residue_of_operand u v h
identity_first Max u v h =
    ap (λ z. residue 32 (int_max z (operand 32 u v))) (least_as_operand u)
    ∙ ap (residue 32) (max_right (least_of 32 (not u)) (operand 32 u v) (least_operand u v))
    ∙ residue_of_operand u v h
identity_first Last u v h = refl

-- either operand, as a word, stands for itself
picked : (unsigned : Bool) (a b : ℕ) → a < 2 ^ 32 → b < 2 ^ 32 → (t : Bool) →
    operand 32 unsigned (residue 32 (cond t (operand 32 unsigned b) (operand 32 unsigned a))) ≡ cond t (operand 32 unsigned b) (operand 32 unsigned a)
picked u a b p q true = ap (operand 32 u) (residue_of_operand u b q)
picked u a b p q false = ap (operand 32 u) (residue_of_operand u a p)

-- the lesser and the greater word stand for the lesser and the greater number
pub lesser_as_operand : (unsigned : Bool) (a b : ℕ) → a < 2 ^ 32 → b < 2 ^ 32 → operand 32 unsigned (lesser_of 32 unsigned a b) ≡ int_min (operand 32 unsigned a) (operand 32 unsigned b)
unfolding lesser_of
lesser_as_operand u a b p q = picked u a b p q (int_lt (operand 32 u b) (operand 32 u a))

pub greater_as_operand : (unsigned : Bool) (a b : ℕ) → a < 2 ^ 32 → b < 2 ^ 32 → operand 32 unsigned (greater_of 32 unsigned a b) ≡ int_max (operand 32 unsigned a) (operand 32 unsigned b)
unfolding greater_of
greater_as_operand u a b p q = picked u b a q p (int_lt (operand 32 u b) (operand 32 u a))

min_comm : (x y : ℤ) → int_min x y ≡ int_min y x
min_comm x y = omega (arith, ints, clamps)

max_comm : (x y : ℤ) → int_max x y ≡ int_max y x
max_comm x y = omega (arith, ints, clamps)

min_assoc : (x y z : ℤ) → int_min (int_min x y) z ≡ int_min x (int_min y z)
min_assoc x y z = omega (arith, ints, clamps)

max_assoc : (x y z : ℤ) → int_max (int_max x y) z ≡ int_max x (int_max y z)
max_assoc x y z = omega (arith, ints, clamps)

sum_commutes : (m a b : ℕ) → (a + b) % m ≡ (b + a) % m
sum_commutes m a b = ap (λ n. n % m) (omega arith)

-- the order of two values is free, but where one of them wins
pub fold_once_comm : (c : Combiner) (unsigned : Bool) (a b : ℕ) → (c ≡ Last → ⊥) → fold_once c unsigned a b ≡ fold_once c unsigned b a
unfolding fold_once lesser_of greater_of
fold_once_comm Add u a b h = sum_by_residues 32 u a b ∙ sum_commutes (2 ^ 32) a b ∙ sym (sum_by_residues 32 u b a)
fold_once_comm And u a b h = and_comm a b
fold_once_comm Or u a b h = or_comm a b
fold_once_comm Xor u a b h = xor_comm a b
fold_once_comm Min u a b h = ap (residue 32) (min_comm (operand 32 u a) (operand 32 u b))
fold_once_comm Max u a b h = ap (residue 32) (max_comm (operand 32 u a) (operand 32 u b))
fold_once_comm Last u a b h = absurd (h refl)

-- every fold of words is a word
pub fold_once_below : (c : Combiner) (unsigned : Bool) (a b : ℕ) → a < 2 ^ 32 → b < 2 ^ 32 → fold_once c unsigned a b < 2 ^ 32
unfolding fold_once sum_of lesser_of greater_of
fold_once_below Add u a b p q = residue_below 32 (operand 32 u a +ℤ operand 32 u b)
fold_once_below And u a b p q = omega (arith, and_le_l a b)
fold_once_below Or u a b p q = or_of_32 a b p q
fold_once_below Xor u a b p q = xor_of_32 a b p q
fold_once_below Min u a b p q = residue_below 32 (int_min (operand 32 u a) (operand 32 u b))
fold_once_below Max u a b p q = residue_below 32 (int_max (operand 32 u a) (operand 32 u b))
fold_once_below Last u a b p q = q

sums_join : (m a b c : ℕ) → ((a + b) % m + c) % m ≡ (a + (b + c) % m) % m
sums_join m a b c =
    ap (λ n. n % m) (turn ((a + b) % m) c) ∙ add-mod-mod c (a + b) m
    ∙ ap (λ n. n % m) (together a b c)
    ∙ sym (add-mod-mod a (b + c) m)
  where
    turn : (x y : ℕ) → x + y ≡ y + x
    turn x y = omega arith

    together : (a b c : ℕ) → c + (a + b) ≡ a + (b + c)
    together a b c = omega arith

least_grouped : (u : Bool) (x y z : ℕ) → x < 2 ^ 32 → y < 2 ^ 32 → z < 2 ^ 32 → lesser_of 32 u (lesser_of 32 u x y) z ≡ lesser_of 32 u x (lesser_of 32 u y z)
unfolding lesser_of
least_grouped u x y z p q r =
    ap (λ n. residue 32 (int_min n (operand 32 u z))) (lesser_as_operand u x y p q)
    ∙ ap (residue 32) (min_assoc (operand 32 u x) (operand 32 u y) (operand 32 u z))
    ∙ sym (ap (λ n. residue 32 (int_min (operand 32 u x) n)) (lesser_as_operand u y z q r))

greatest_grouped : (u : Bool) (x y z : ℕ) → x < 2 ^ 32 → y < 2 ^ 32 → z < 2 ^ 32 → greater_of 32 u (greater_of 32 u x y) z ≡ greater_of 32 u x (greater_of 32 u y z)
unfolding greater_of
greatest_grouped u x y z p q r =
    ap (λ n. residue 32 (int_max n (operand 32 u z))) (greater_as_operand u x y p q)
    ∙ ap (residue 32) (max_assoc (operand 32 u x) (operand 32 u y) (operand 32 u z))
    ∙ sym (ap (λ n. residue 32 (int_max (operand 32 u x) n)) (greater_as_operand u y z q r))

or_digits : (x y z : ℕ) → x < 2 → y < 2 → z < 2 → bit_or (bit_or x y) z ≡ bit_or x (bit_or y z)
or_digits zero y z p q r = refl
or_digits (suc zero) zero z p q r = refl
or_digits (suc zero) (suc zero) zero p q r = refl
or_digits (suc zero) (suc zero) (suc zero) p q r = refl
or_digits (suc zero) (suc zero) (suc (suc z)) p q r = absurd (omega arith)
or_digits (suc zero) (suc (suc y)) z p q r = absurd (omega arith)
or_digits (suc (suc x)) y z p q r = absurd (omega arith)

same_digits : (a b : ℕ) → a / 2 ≡ b / 2 → a % 2 ≡ b % 2 → a ≡ b
same_digits a b h l = omega arith

or_assoc : (k a b c : ℕ) → a < 2 ^ k → bit_or (bit_or a b) c ≡ bit_or a (bit_or b c)
or_assoc zero a b c h =
    let none : a ≡ 0 = omega arith in
    ap (λ n. bit_or (bit_or n b) c) none ∙ sym (ap (λ n. bit_or n (bit_or b c)) none)
or_assoc (suc k) a b c h =
    same_digits (bit_or (bit_or a b) c) (bit_or a (bit_or b c))
    (or_shr (bit_or a b) c 1 ∙ ap (λ n. bit_or n (c / 2)) (or_shr a b 1) ∙ or_assoc k (a / 2) (b / 2) (c / 2) (omega (arith, pow-suc 2 k))
    ∙ sym (or_shr a (bit_or b c) 1 ∙ ap (bit_or (a / 2)) (or_shr b c 1)))
    (or_mod (bit_or a b) c 1 ∙ ap (λ n. bit_or n (c % 2)) (or_mod a b 1)
    ∙ or_digits (a % 2) (b % 2) (c % 2) (omega arith) (omega arith) (omega arith)
    ∙ sym (or_mod a (bit_or b c) 1 ∙ ap (bit_or (a % 2)) (or_mod b c 1)))

-- values may be folded in groups
pub fold_once_assoc : (c : Combiner) (unsigned : Bool) (x y z : ℕ) → x < 2 ^ 32 → y < 2 ^ 32 → z < 2 ^ 32 →
    fold_once c unsigned (fold_once c unsigned x y) z ≡ fold_once c unsigned x (fold_once c unsigned y z)
unfolding fold_once
fold_once_assoc Add u x y z p q r =
    sum_by_residues 32 u (sum_of 32 u x y) z
    ∙ ap (λ n. (n + z) % 2 ^ 32) (sum_by_residues 32 u x y)
    ∙ sums_join (2 ^ 32) x y z
    ∙ sym (sum_by_residues 32 u x (sum_of 32 u y z) ∙ ap (λ n. (x + n) % 2 ^ 32) (sum_by_residues 32 u y z))
fold_once_assoc And u x y z p q r = and_assoc z x y
fold_once_assoc Or u x y z p q r = or_assoc 32 x y z p
fold_once_assoc Xor u x y z p q r = xor_assoc x y z
fold_once_assoc Min u x y z p q r = least_grouped u x y z p q r
fold_once_assoc Max u x y z p q r = greatest_grouped u x y z p q r
fold_once_assoc Last u x y z p q r = refl
