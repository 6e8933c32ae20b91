-- A narrow type that has the words of two values has what they are joined to bit by bit.
use Rattle.std.proofs.Common.{◌≡◌, ◌∙◌, ℕ, zero, suc, ◌<◌, ◌≤◌, ◌%◌, ◌^◌, Bool, true, false, bit_and, bit_or, bit_xor, refl, sym, ap, subst, arith, lit<}
use Rattle.std.proofs.lemmas.Nat.{and_mod, mod_below, or_mod, pow_pos, xor_mod}
use Rattle.std.proofs.Math.Nat.{mod-eq_of_lt, pow-le-pow_right}
use Rattle.cstar_base.specs.declared.elem.Elem.{Elem}
use Rattle.cstar_base.specs.declared.operators.Op.{Op}
use Rattle.cstar_base.specs.declared.operators.Op.TheVariants as P
use Rattle.cstar_base.specs.Numbers.{number_of, residue}
use Rattle.cstar_base.specs.Operators.{outcome}
use Rattle.cstar_base.proofs.NumberLaws.{kind_bits, number_unsigned, residue_of_pos}
use Rattle.lower_base.specs.Kinds.{is_bitwise}
use Rattle.lower_expr.specs.Kinds.{has_number}
use Rattle.short_values.proofs.NarrowTypes.{is_word}
use Rattle.short_values.proofs.SignedWords.{Repeats, and_repeats, number_repeats, or_repeats, sign_extended, xor_repeats}
use Rattle.source_meaning.specs.Reductions.{int_type}
use Rattle.code_follows.proofs.Words.{wide_converted}
use Rattle.fields_follow.proofs.Lengths.{held_has}

-- a word is the one of its lowest bits
abbrev IsRead : ℕ → Bool → ℕ → Type 0
IsRead bits signed word = residue 32 (number_of bits signed (word % 2 ^ bits)) ≡ word

lowest_below : (bits word : ℕ) → word % 2 ^ bits < 2 ^ bits
lowest_below bits word = mod_below word (2 ^ bits) (pow_pos bits)

plain_read : (bits word : ℕ) → bits < 32 → residue 32 (number_of bits false (word % 2 ^ bits)) ≡ word % 2 ^ bits
plain_read bits word few =
    let wide : 2 ^ bits ≤ 2 ^ 32 = pow-le-pow_right (lit< tt) (let e : bits ≤ 32 = omega (arith, few) in e) in
    ap (residue 32) (number_unsigned bits (word % 2 ^ bits)) ∙ residue_of_pos 32 (word % 2 ^ bits) ∙ mod-eq_of_lt (let low = lowest_below bits word in omega (arith, low, wide))

module _ (f : ℕ → ℕ → ℕ) (lowest : (a b k : ℕ) → f a b % 2 ^ k ≡ f (a % 2 ^ k) (b % 2 ^ k)) (repeats : (k a b : ℕ) → Repeats k a → Repeats k b → Repeats k (f a b)) where
  read_joined : (bits : ℕ) (signed : Bool) (x y : ℕ) → 0 < bits → bits < 32 → IsRead bits signed x → IsRead bits signed y → IsRead bits signed (f x y)
  read_joined zero signed x y some few one other = absurd (omega (arith, some))
  read_joined (suc k) true x y some few one other = sign_extended k (f x y) (omega (arith, few)) (repeats k x y (repeat x one) (repeat y other))
    where
      repeat : (word : ℕ) → IsRead (suc k) true word → Repeats k word
      repeat word is = subst (λ (w : ℕ). Repeats k w) is (number_repeats k (word % 2 ^ suc k) (omega (arith, few)) (lowest_below (suc k) word))
  read_joined (suc k) false x y some few one other =
      plain_read (suc k) (f x y) few ∙ lowest x y (suc k) ∙ ap (λ (a : ℕ). f a (y % 2 ^ suc k)) (sym (plain_read (suc k) x few) ∙ one) ∙ ap (λ (b : ℕ). f x b) (sym (plain_read (suc k) y few) ∙ other)

  joined_has : (kind : Elem) (x y : ℕ) → kind.bits < 32 → has_number kind x ≡ true → has_number kind y ≡ true → has_number kind (f x y) ≡ true
  joined_has kind x y few one other =
      subst (λ (w : ℕ). has_number kind w ≡ true)
      (wide_converted int_type kind (f x y % 2 ^ kind.bits) refl ∙ read_joined kind.bits kind.signed x y (kind_bits kind.bits kind.signed kind.kind).0 few (read x one) (read y other))
      (held_has kind (f x y % 2 ^ kind.bits) (lowest_below kind.bits (f x y)))
    where
      read : (word : ℕ) → has_number kind word ≡ true → IsRead kind.bits kind.signed word
      read word has = sym (wide_converted int_type kind (word % 2 ^ kind.bits) refl) ∙ is_word kind (word % 2 ^ kind.bits) word has refl

pub bitwise_has : (op : Op) (kind : Elem) (unsigned : Bool) (x y : ℕ) → is_bitwise op ≡ true → kind.bits < 32 → has_number kind x ≡ true → has_number kind y ≡ true → has_number kind (outcome op 32 unsigned x y) ≡ true
unfolding is_bitwise outcome
bitwise_has P.And kind unsigned x y is few one other = joined_has bit_and and_mod and_repeats kind x y few one other
bitwise_has P.Or kind unsigned x y is few one other = joined_has bit_or or_mod or_repeats kind x y few one other
bitwise_has P.Xor kind unsigned x y is few one other = joined_has bit_xor xor_mod xor_repeats kind x y few one other
bitwise_has _ kind unsigned x y is few one other = cc
