-- The word of a number, converted as the number is.
use Rattle.std.proofs.Common.{◌≡◌, ◌∙◌, ℕ, zero, suc, ◌+◌, ◌-◌, ◌*◌, ◌<◌, ◌≤◌, ◌^◌, ◌==◌, Bool, true, false, not, ℤ, pos, negsuc, ◌+ℤ◌, ◌-ℤ◌, refl, sym, ap, subst, if◌then◌else◌, inl, inr, lit<, arith}
use Rattle.std.specs.Prelude.{◌⊎◌}
use Rattle.std.proofs.lemmas.Bool.{cases_lt, eq-eqb, eqb-true}
use Rattle.std.proofs.lemmas.Int.{ints}
use Rattle.std.proofs.lemmas.Nat.{pow-add, pow_pos}
use Rattle.std.proofs.Math.Nat.{mod-eq_of_lt, pow-le-pow_right}
use Rattle.cstar_base.specs.declared.elem.Elem.{Elem}
use Rattle.cstar_base.specs.Numbers.{converted, number_of, residue, truth_of}
use Rattle.cstar_base.proofs.NumberLaws.{kind_bits, modulus_in_word, number_in_lower, number_in_upper, number_unsigned, residue_is, residue_of_number, residue_of_pos, two_halves}
use Rattle.constant_trees.proofs.Words.{converted_below}
use Rattle.paris_code.specs.Scalar.{rounded}
use Rattle.paris_code.specs.Sending.{word_kind}
use Rattle.source_meaning.specs.Reductions.{int_type}
use Rattle.source_meaning.specs.Values.{nonzero}
use Rattle.code_follows.specs.Fragment.{Takes}
use Rattle.code_follows.proofs.Following.{held}
use Rattle.code_follows.proofs.Words.{below_word, held_converted, held_wide, wide_converted}

-- a signed number of a type is that of its word
signed_word : (len n : ℕ) → 1 ≤ len → len ≤ 32 → n < 2 ^ len → number_of 32 true (residue 32 (number_of len true n)) ≡ number_of len true n
signed_word len n a b h =
    let whole : 2 ^ len ≤ 2 ^ 32 = pow-le-pow_right (lit< tt) b in
    let half : 2 ^ (len - 1) ≤ 2 ^ (32 - 1) = pow-le-pow_right (lit< tt) (let e : len - 1 ≤ 32 - 1 = omega arith in e) in
    let halves = two_halves len a in
    elim (cases_lt n (2 ^ (len - 1))) [
      | inl below ↦
          let low : number_of len true n ≡ pos n = number_in_lower len n below in
          let word : residue 32 (number_of len true n) ≡ n = ap (residue 32) low ∙ residue_of_pos 32 n ∙ mod-eq_of_lt (omega arith) in
          ap (number_of 32 true) word ∙ number_in_lower 32 n (omega arith) ∙ sym low
      | inr above ↦
          let m : ℕ = 2 ^ 32 - 2 ^ len + n in
          let high : number_of len true n ≡ pos n -ℤ pos (2 ^ len) = number_in_upper len n above in
          let word : residue 32 (number_of len true n) ≡ m =
          ap (residue 32) high ∙ residue_is 32 (pos n -ℤ pos (2 ^ len)) 1 m (omega (arith, ints)) ∙ mod-eq_of_lt (omega arith) in
          ap (number_of 32 true) word ∙ number_in_upper 32 m (omega arith) ∙ (let e : pos m -ℤ pos (2 ^ 32) ≡ pos n -ℤ pos (2 ^ len) = omega (arith, ints) in e) ∙ sym high
    ]

-- a number converted to a type of so many bits
abbrev cut : ℕ → ℤ → ℕ
cut bits z = if bits == 1 then truth_of z else residue bits z

-- a word read signed is cut as it is read unsigned
cut_word : (bits w : ℕ) → bits ≤ 32 → w < 2 ^ 32 → cut bits (number_of 32 true w) ≡ cut bits (pos w)
unfolding truth_of
cut_word bits w few small = elim (cases_lt w (2 ^ (32 - 1))) [
  | inl below ↦ ap (cut bits) (number_in_lower 32 w below)
  | inr above ↦ ap (cut bits) (number_in_upper 32 w above) ∙ by (bits == 1) above
]
  where
    by : (one : Bool) → 2 ^ (32 - 1) ≤ w → (if one then truth_of (pos w -ℤ pos (2 ^ 32)) else residue bits (pos w -ℤ pos (2 ^ 32))) ≡ (if one then truth_of (pos w) else residue bits (pos w))
    by true above =
        let below_zero : pos w -ℤ pos (2 ^ 32) ≡ negsuc (2 ^ 32 - 1 - w) = omega (arith, ints) in
        let some : w ≡ suc (w - 1) = omega arith in
        ap truth_of below_zero ∙ sym (ap (λ (n : ℕ). truth_of (pos n)) some)
    by false above =
        let whole : 2 ^ (32 - bits) * 2 ^ bits ≡ 2 ^ 32 = sym (pow-add 2 (32 - bits) bits) ∙ ap (λ (n : ℕ). 2 ^ n) (let e : 32 - bits + bits ≡ 32 = omega arith in e) in
        residue_is bits (pos w -ℤ pos (2 ^ 32)) (2 ^ (32 - bits)) w (ap (λ (p : ℕ). (pos w -ℤ pos (2 ^ 32)) +ℤ pos p) whole ∙ (let e : (pos w -ℤ pos (2 ^ 32)) +ℤ pos (2 ^ 32) ≡ pos w = omega (arith, ints) in e)) ∙ sym (residue_of_pos bits w)

-- the word of a number is converted as the number is
pub word_converted : (to from : Elem) (w : ℕ) → w < 2 ^ from.bits → converted to word_kind (held from w) ≡ converted to from w
unfolding converted
word_converted to from w few = ap (λ (x : ℕ). cut to.bits (number_of 32 true x)) (wide_converted int_type from w refl) ∙ by from.signed
  where
    bits : (0 < from.bits) × (from.bits ≤ 32)
    bits = kind_bits from.bits from.signed from.kind

    by : (signed : Bool) → cut to.bits (number_of 32 true (residue 32 (number_of from.bits signed w))) ≡ cut to.bits (number_of from.bits signed w)
    by true = ap (cut to.bits) (signed_word from.bits w bits.0 bits.1 few)
    by false =
        let small : w < 2 ^ 32 = omega (arith, few, modulus_in_word from.bits from.signed from.kind) in
        let word : residue 32 (number_of from.bits false w) ≡ w = ap (residue 32) (number_unsigned from.bits w) ∙ residue_of_pos 32 w ∙ mod-eq_of_lt small in
        ap (λ (x : ℕ). cut to.bits (number_of 32 true x)) word ∙ cut_word to.bits w (kind_bits to.bits to.signed to.kind).1 small ∙ sym (ap (cut to.bits) (number_unsigned from.bits w))

-- a word converted in its register
pub rounded_is : (to from : Elem) (w : ℕ) → w < 2 ^ from.bits → rounded to (held from w) ≡ held to (converted to from w)
unfolding rounded
rounded_is to from w few = ap (converted word_kind to) (word_converted to from w few) ∙ held_converted word_kind to (converted to from w) refl

truth_stays : (signed : Bool) (w : ℕ) → w < 2 → truth_of (number_of 1 signed w) ≡ w
unfolding truth_of number_of
truth_stays true zero few = refl
truth_stays true (suc zero) few = refl
truth_stays true (suc (suc w)) few = absurd (omega (arith, few))
truth_stays false zero few = refl
truth_stays false (suc zero) few = refl
truth_stays false (suc (suc w)) few = absurd (omega (arith, few))

-- a number of a type stays what it is
pub number_same : (elem : Elem) (w : ℕ) → w < 2 ^ elem.bits → converted elem elem w ≡ w
unfolding converted
number_same elem w few = by (elem.bits == 1) refl
  where
    by : (one : Bool) → (elem.bits == 1) ≡ one → converted elem elem w ≡ w
    by true is =
        let narrow : elem.bits ≡ 1 = eqb-true elem.bits 1 is in
        let few_there : w < 2 ^ 1 = subst (λ (n : ℕ). w < 2 ^ n) narrow few in
        rw is (ap (λ (n : ℕ). truth_of (number_of n elem.signed w)) narrow ∙ truth_stays elem.signed w (omega (arith, few_there)))
    by false is = rw is (residue_of_number elem.bits elem.signed w few)

-- a number of a type is kept by a register of another: that is the same, or has 32 bits
abbrev pub Fits : Elem → Elem → Type 0
Fits to from = (from ≡ to) ⊎ (to.bits ≡ 32)

pub takes_fits : (to from : Elem) → Takes to from → Fits to from
takes_fits to from (inl same) = inl same
takes_fits to from (inr wide) = inr wide.1

pub fits_wide : (to from : Elem) → Fits to from → from.bits ≡ 32 → to.bits ≡ 32
fits_wide to from (inl same) wide = sym (ap (λ (e : Elem). e.bits) same) ∙ wide
fits_wide to from (inr is) wide = is

-- the word of a number that is kept so
pub fits_held : (to from : Elem) (w : ℕ) → Fits to from → w < 2 ^ from.bits → held from w ≡ held to (converted to from w)
fits_held to from w (inl same) few =
    subst (λ (e : Elem). held from w ≡ held e (converted e from w)) same (ap (held from) (sym (number_same from w few)))
fits_held to from w (inr wide) few =
    sym (held_wide to (converted to from w) wide (below_word to.bits (converted to from w) wide (converted_below to from w)) ∙ held_converted to from w wide)

-- it is the same number
pub takes_same : (to from : Elem) (w : ℕ) → Takes to from → w < 2 ^ from.bits → converted to from w ≡ w
takes_same to from w (inl same) few = subst (λ (e : Elem). converted e from w ≡ w) same (number_same from w few)
takes_same to from w (inr wide) few = held_converted to from w wide.1 ∙ held_wide from w wide.0 (below_word from.bits w wide.0 few)

pub takes_held : (to from : Elem) (w : ℕ) → Takes to from → w < 2 ^ from.bits → held from w ≡ held to w
takes_held to from w takes few = fits_held to from w (takes_fits to from takes) few ∙ ap (held to) (takes_same to from w takes few)

pub takes_below : (to from : Elem) (w : ℕ) → Takes to from → w < 2 ^ from.bits → w < 2 ^ to.bits
takes_below to from w takes few = subst (λ (n : ℕ). n < 2 ^ to.bits) (takes_same to from w takes few) (converted_below to from w)

-- what 0 is converted to
zero_number_is : (bits : ℕ) (signed : Bool) → 0 < bits → number_of bits signed 0 ≡ pos 0
zero_number_is bits false some = number_unsigned bits 0
zero_number_is bits true some = number_in_lower bits 0 (pow_pos (bits - 1))

pub zero_converted : (to from : Elem) → converted to from 0 ≡ 0
unfolding converted truth_of
zero_converted to from = ap (cut to.bits) (zero_number_is from.bits from.signed (kind_bits from.bits from.signed from.kind).0) ∙ by (to.bits == 1)
  where
    by : (one : Bool) → (if one then truth_of (pos 0) else residue to.bits (pos 0)) ≡ 0
    by true = refl
    by false = residue_of_pos to.bits 0 ∙ mod-eq_of_lt (pow_pos to.bits)

-- a word is 0 exactly where its number is
pub held_zero : (elem : Elem) (w : ℕ) → w < 2 ^ elem.bits → (held elem w == 0) ≡ (w == 0)
held_zero elem w few = by (held elem w == 0) (w == 0) refl refl
  where
    by : (a b : Bool) → (held elem w == 0) ≡ a → (w == 0) ≡ b → (held elem w == 0) ≡ (w == 0)
    by true b is other =
        let none : w ≡ 0 = sym (number_same elem w few) ∙ sym (word_converted elem elem w few) ∙ ap (converted elem word_kind) (eqb-true (held elem w) 0 is) ∙ zero_converted elem word_kind in
        is ∙ sym (eq-eqb w 0 none)
    by false true is other =
        let none : held elem w ≡ 0 = ap (held elem) (eqb-true w 0 other) ∙ zero_converted int_type elem in
        let there : (held elem w == 0) ≡ true = eq-eqb (held elem w) 0 none in
        cc
    by false false is other = is ∙ sym other

pub held_nonzero : (elem : Elem) (w : ℕ) → w < 2 ^ elem.bits → nonzero (held elem w) ≡ nonzero w
held_nonzero elem w few = ap not (held_zero elem w few)

-- a number of a type is what its bits are converted to
pub bits_rounded : (elem : Elem) (w : ℕ) → w < 2 ^ elem.bits → rounded elem w ≡ held elem w
unfolding rounded converted truth_of
bits_rounded elem w few =
    let small : w < 2 ^ 32 = omega (arith, few, modulus_in_word elem.bits elem.signed elem.kind) in
    ap (held elem) (cut_word elem.bits w (kind_bits elem.bits elem.signed elem.kind).1 small ∙ by (elem.bits == 1) refl)
  where
    truth : (n : ℕ) → n < 2 → truth_of (pos n) ≡ n
    truth zero little = refl
    truth (suc zero) little = refl
    truth (suc (suc n)) little = absurd (omega (arith, little))

    by : (one : Bool) → (elem.bits == 1) ≡ one → (if elem.bits == 1 then truth_of (pos w) else residue elem.bits (pos w)) ≡ w
    by true is =
        let narrow : elem.bits ≡ 1 = eqb-true elem.bits 1 is in
        let little : w < 2 ^ 1 = subst (λ (n : ℕ). w < 2 ^ n) narrow few in
        ap (λ (b : Bool). if b then truth_of (pos w) else residue elem.bits (pos w)) is ∙ truth w (omega (arith, little))
    by false is = ap (λ (b : Bool). if b then truth_of (pos w) else residue elem.bits (pos w)) is ∙ residue_of_pos elem.bits w ∙ mod-eq_of_lt few
