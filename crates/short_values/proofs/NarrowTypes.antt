-- The words that a narrow type has.
use Rattle.std.proofs.Common.{◌≡◌, ℕ, zero, suc, ◌<◌, ◌≤◌, ◌-◌, ◌^◌, ◌%◌, eqb, Bool, true, false, ◌&&◌, cond, ℤ, pos, negsuc, ◌≤ℤ◌, refl, sym, ◌∙◌, ap, subst, inl, inr, lit<, arith}
use Rattle.std.specs.Int.{from_bool}
use Rattle.std.specs.Prelude.{nat_lt, nat_le, if◌then◌else◌, ◌==◌}
use Rattle.std.proofs.lemmas.Int.{ints}
use Rattle.std.proofs.lemmas.Nat.{mod_below, pow_pos}
use Rattle.std.proofs.lemmas.Bool.{cases_eq, eq-eqb, ne_eqb}
use Rattle.std.proofs.lemmas.Bool.Decides.{nat_tests}
use Rattle.std.proofs.Math.Nat.{mod-eq_of_lt, pow-le-pow_right}
use Rattle.cstar_base.specs.declared.elem.Elem.{Elem}
use Rattle.cstar_base.specs.Kinds.{is_kind}
use Rattle.cstar_base.specs.Numbers.{converted, residue, number_of, truth_of, least_of, greatest_of}
use Rattle.cstar_base.proofs.NumberLaws.{kind_bits, number_in_lower, number_in_upper, number_unsigned, number_at_least, number_at_most, residue_below, residue_is, residue_of_number, residue_of_pos, two_halves}
use Rattle.cstar_tree.specs.declared.typed.UnaryOp.TheVariants as Un
use Rattle.source_meaning.specs.Reductions.{int_type}
use Rattle.source_meaning.specs.Values.{unary_of}
use Rattle.lower_base.specs.Kinds.{has_all}
use Rattle.lower_expr.specs.Kinds.{has_number}
use Rattle.phase_meaning.proofs.Widths.{residue_cut}
use Rattle.short_values.specs.Short.{Agrees}

-- the number of a type that a word is converted to
unfoldable pub narrowed : ℕ → ℕ → ℕ
narrowed bits word = if bits == 1 then truth_of (number_of 32 true word) else residue bits (number_of 32 true word)

truth_below : (z : ℤ) → truth_of z < 2 ^ 1
unfolding truth_of
truth_below (pos zero) = lit< tt
truth_below (pos (suc n)) = lit< tt
truth_below (negsuc n) = lit< tt

pub narrowed_below : (bits word : ℕ) → narrowed bits word < 2 ^ bits
unfolding narrowed
narrowed_below bits word = elim (cases_eq bits 1) [
  | inl e ↦ subst (λ (b : ℕ). narrowed b word < 2 ^ b) (sym e) (truth_below (number_of 32 true word))
  | inr other ↦ subst (λ (t : Bool). cond t (truth_of (number_of 32 true word)) (residue bits (number_of 32 true word)) < 2 ^ bits) (sym (ne_eqb bits 1 other))
      (residue_below bits (number_of 32 true word))
]

-- has a type a word: is that what the type's number is converted to
pub holds : (bits : ℕ) (signed : Bool) (word : ℕ) → Bool
holds bits signed word = residue 32 (number_of bits signed (narrowed bits word)) == word

-- by the bits and the sign of the type alone
pub by_parts : (kind : Elem) (word : ℕ) → has_number kind word ≡ holds kind.bits kind.signed word
unfolding has_number holds narrowed converted
by_parts kind word = refl

same_number : (a b : ℕ) → (a == b) ≡ true → a ≡ b
same_number a b h = grind (arith, nat_tests)

pub whole : (bits : ℕ) (signed : Bool) (word : ℕ) → holds bits signed word ≡ true → residue 32 (number_of bits signed (narrowed bits word)) ≡ word
unfolding holds
whole bits signed word h = same_number (residue 32 (number_of bits signed (narrowed bits word))) word h

-- then the number is the lowest bits of the word
lowest : (bits : ℕ) (signed : Bool) (word : ℕ) → bits ≤ 32 → holds bits signed word ≡ true → word % 2 ^ bits ≡ narrowed bits word
lowest bits signed word most h =
    ap (λ x. x % 2 ^ bits) (sym (whole bits signed word h)) ∙ residue_cut bits (number_of bits signed (narrowed bits word)) most
    ∙ residue_of_number bits signed (narrowed bits word) (narrowed_below bits word)

-- so a field that agrees with the word is the word
pub read_word : (bits : ℕ) (signed : Bool) (n word : ℕ) → bits ≤ 32 → holds bits signed word ≡ true → Agrees bits n word → residue 32 (number_of bits signed n) ≡ word
read_word bits signed n word most h agrees =
    ap (λ k. residue 32 (number_of bits signed k)) (agrees ∙ lowest bits signed word most h) ∙ whole bits signed word h

pub is_word : (kind : Elem) (n word : ℕ) → has_number kind word ≡ true → Agrees kind.bits n word → converted int_type kind n ≡ word
unfolding converted
is_word kind n word h agrees =
    read_word kind.bits kind.signed n word (kind_bits kind.bits kind.signed kind.kind).1 (sym (by_parts kind word) ∙ h) agrees

-- 0 stands for itself in every type
number_zero : (bits : ℕ) (signed : Bool) → number_of bits signed 0 ≡ pos 0
number_zero bits false = number_unsigned bits 0
number_zero bits true = number_in_lower bits 0 (pow_pos (bits - 1))

converted_zero : (kind : Elem) → converted int_type kind 0 ≡ 0
unfolding converted
converted_zero kind = ap (residue 32) (number_zero kind.bits kind.signed) ∙ residue_of_pos 32 0

pub extended : (kind : Elem) (bits n word : ℕ) → bits ≤ 32 → has_number kind word ≡ true → Agrees kind.bits n word
    → Agrees bits (residue bits (number_of kind.bits kind.signed n)) word
extended kind bits n word most h agrees =
    sym (residue_cut bits (number_of kind.bits kind.signed n) most)
    ∙ ap (λ x. x % 2 ^ bits) (read_word kind.bits kind.signed n word (kind_bits kind.bits kind.signed kind.kind).1 (sym (by_parts kind word) ∙ h) agrees)

-- the type's number is 0 where the word is
pub zero_test : (kind : Elem) (n word : ℕ) → has_number kind word ≡ true → Agrees kind.bits n word → eqb n 0 ≡ eqb word 0
zero_test kind n word h agrees = elim (cases_eq word 0) [
  | inl e ↦ eq-eqb n 0 (agrees ∙ ap (λ x. x % 2 ^ kind.bits) e ∙ mod-eq_of_lt (pow_pos kind.bits)) ∙ sym (eq-eqb word 0 e)
  | inr some ↦ ne_eqb n 0 (λ e. some (sym (is_word kind n word h agrees) ∙ ap (converted int_type kind) e ∙ converted_zero kind)) ∙ sym (ne_eqb word 0 some)
]

-- the complement of one bit is whether that is 0
flipped : (n : ℕ) → n < 2 ^ 1 → 2 ^ 1 - 1 - n ≡ from_bool (eqb n 0) % 2 ^ 1
flipped zero h = refl
flipped (suc zero) h = refl
flipped (suc (suc n)) h = absurd (omega (arith, h))

pub negation : (kind : Elem) (n word : ℕ) → kind.bits ≡ 1 → has_number kind word ≡ true → Agrees 1 n word → Agrees 1 (2 ^ 1 - 1 - n) (unary_of Un.Not word)
unfolding unary_of
negation kind n word bit h agrees =
    flipped n (subst (λ (k : ℕ). k < 2 ^ 1) (sym agrees) (mod_below word (2 ^ 1) (pow_pos 1)))
    ∙ ap (λ (b : Bool). from_bool b % 2 ^ 1) (zero_test kind n word h (subst (λ (b : ℕ). Agrees b n word) (sym bit) agrees))

-- a number in the range of a type is that of its residue
in_range : (bits : ℕ) (signed : Bool) (z : ℤ) → 0 < bits → least_of bits signed ≤ℤ z → z ≤ℤ greatest_of bits signed → number_of bits signed (residue bits z) ≡ z
unfolding least_of greatest_of
in_range bits false (pos m) some low high =
    number_unsigned bits (residue bits (pos m)) ∙ ap pos (residue_of_pos bits m ∙ mod-eq_of_lt (omega (arith, ints, pow_pos bits)))
in_range bits false (negsuc m) some low high = absurd (omega (arith, ints))
in_range bits true (pos m) some low high =
    let p = pow_pos (bits - 1) in
    let halves = two_halves bits some in
    let is : residue bits (pos m) ≡ m = residue_of_pos bits m ∙ mod-eq_of_lt (omega (arith, ints)) in
    ap (number_of bits true) is ∙ number_in_lower bits m (omega (arith, ints))
in_range bits true (negsuc m) some low high =
    let halves = two_halves bits some in
    let far : suc m ≤ 2 ^ (bits - 1) = omega (arith, ints) in
    let is : residue bits (negsuc m) ≡ 2 ^ bits - suc m = residue_is bits (negsuc m) 1 (2 ^ bits - suc m) (omega (arith, ints)) ∙ mod-eq_of_lt (omega arith) in
    ap (number_of bits true) is ∙ number_in_upper bits (2 ^ bits - suc m) (omega arith) ∙ omega (arith, ints)

-- the range of a type that has all numbers of another one takes in the other's
abbrev Takes : ℕ → Bool → ℕ → Bool → Type 0
Takes bits signed other_bits other = (least_of bits signed ≤ℤ least_of other_bits other) × (greatest_of other_bits other ≤ℤ greatest_of bits signed)

all_of : ℕ → Bool → ℕ → Bool → Bool
all_of bits signed other_bits other =
    if other then signed && nat_le other_bits bits else (if signed then nat_lt other_bits bits else nat_le other_bits bits)

at_most : (a b : ℕ) → nat_le a b ≡ true → a ≤ b
at_most a b h = grind (arith, nat_tests)

below : (a b : ℕ) → nat_lt a b ≡ true → a < b
below a b h = grind (arith, nat_tests)

takes : (bits : ℕ) (signed : Bool) (other_bits : ℕ) (other : Bool) → all_of bits signed other_bits other ≡ true → Takes bits signed other_bits other
unfolding all_of least_of greatest_of
takes bits true k true h =
    let within : k ≤ bits = at_most k bits h in
    let halves : 2 ^ (k - 1) ≤ 2 ^ (bits - 1) = pow-le-pow_right (lit< tt) (let e : k - 1 ≤ bits - 1 = omega arith in e) in
    (omega (arith, ints), omega (arith, ints, pow_pos (k - 1)))
takes bits true k false h =
    let within : k < bits = below k bits h in
    let halves : 2 ^ k ≤ 2 ^ (bits - 1) = pow-le-pow_right (lit< tt) (let e : k ≤ bits - 1 = omega arith in e) in
    (omega (arith, ints), omega (arith, ints, pow_pos k))
takes bits false k true h = cc
takes bits false k false h =
    let within : k ≤ bits = at_most k bits h in
    let wholes : 2 ^ k ≤ 2 ^ bits = pow-le-pow_right (lit< tt) within in
    (omega (arith, ints), omega (arith, ints, pow_pos k))

-- a type of more bits than one: the number of the other type is in its range
wider : (bits : ℕ) (signed : Bool) (k : ℕ) (other : Bool) (word : ℕ) → 0 < bits → bits ≤ 32 → 0 < k → (bits ≡ 1 → ⊥)
    → all_of bits signed k other ≡ true → holds k other word ≡ true → holds bits signed word ≡ true
unfolding holds narrowed
wider bits signed k other word some most positive large all h =
    let n : ℕ = narrowed k word in
    let z : ℤ = number_of k other n in
    let w : residue 32 z ≡ word = whole k other word h in
    let fits : word < 2 ^ 32 = subst (λ (x : ℕ). x < 2 ^ 32) w (residue_below 32 z) in
    let range = takes bits signed k other all in
    let least = number_at_least k other n positive in
    let greatest = number_at_most k other n positive (narrowed_below k word) in
    let m : narrowed bits word ≡ residue bits z =
    ap (λ t. cond t (truth_of (number_of 32 true word)) (residue bits (number_of 32 true word))) (ne_eqb bits 1 large)
    ∙ sym (residue_cut bits (number_of 32 true word) most) ∙ ap (λ x. x % 2 ^ bits) (residue_of_number 32 true word fits ∙ sym w) ∙ residue_cut bits z most in
    let r : number_of bits signed (residue bits z) ≡ z = in_range bits signed z some (omega (arith, ints)) (omega (arith, ints)) in
    eq-eqb (residue 32 (number_of bits signed (narrowed bits word))) word (ap (λ x. residue 32 (number_of bits signed x)) m ∙ ap (residue 32) r ∙ w)

-- `bool` has all numbers of itself alone
pub bool_unsigned : (bits : ℕ) (signed : Bool) → is_kind bits signed ≡ true → bits ≡ 1 → signed ≡ false
bool_unsigned bits false h e = refl
bool_unsigned bits true h e = let none : false ≡ true = subst (λ (b : ℕ). is_kind b true ≡ true) e h in cc

in_bool : (k : ℕ) (other : Bool) (word : ℕ) → 0 < k → all_of 1 false k other ≡ true → holds k other word ≡ true → holds 1 false word ≡ true
unfolding all_of
in_bool k true word positive all h = cc
in_bool k false word positive all h =
    let most = at_most k 1 all in
    let e : k ≡ 1 = omega arith in
    subst (λ (b : ℕ). holds b false word ≡ true) e h

has : (bits : ℕ) (signed : Bool) (k : ℕ) (other : Bool) (word : ℕ) → is_kind bits signed ≡ true → 0 < k
    → all_of bits signed k other ≡ true → holds k other word ≡ true → holds bits signed word ≡ true
has bits signed k other word kind positive all h = elim (cases_eq bits 1) [
  | inl e ↦
      let plain = bool_unsigned bits signed kind e in
      let all_at : all_of 1 false k other ≡ true = ap (λ b. all_of b false k other) (sym e) ∙ ap (λ s. all_of bits s k other) (sym plain) ∙ all in
      ap (λ b. holds b signed word) e ∙ ap (λ s. holds 1 s word) plain ∙ in_bool k other word positive all_at h
  | inr large ↦
      let size = kind_bits bits signed kind in
      wider bits signed k other word size.0 size.1 positive large all h
]

pub wider_has : (elem kind : Elem) (word : ℕ) → has_all elem kind ≡ true → has_number kind word ≡ true → has_number elem word ≡ true
unfolding has_all all_of
wider_has elem kind word all h =
    by_parts elem word
    ∙ has elem.bits elem.signed kind.bits kind.signed word elem.kind (kind_bits kind.bits kind.signed kind.kind).0 all (sym (by_parts kind word) ∙ h)
