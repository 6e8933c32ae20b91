-- Comparisons of numbers of a narrow type, and of the words that they are converted to.
use Rattle.std.proofs.Common.{◌≡◌, ℕ, ◌<◌, ◌≤◌, ◌^◌, eqb, Bool, true, false, not, refl, sym, ◌∙◌, ap, inl, inr, lit<, arith}
use Rattle.std.specs.Prelude.{int_lt, int_le}
use Rattle.std.specs.Int.{from_bool}
use Rattle.std.proofs.lemmas.Bool.{cases_eq, eq-eqb, ne_eqb}
use Rattle.std.proofs.Math.Nat.{mod-eq_of_lt, pow-le-pow_right}
use Rattle.cstar_base.specs.declared.elem.Elem.{Elem}
use Rattle.cstar_base.specs.declared.operators.Op.{Op}
use Rattle.cstar_base.specs.declared.operators.Op.TheVariants as P
use Rattle.cstar_base.specs.Numbers.{converted, residue, number_of}
use Rattle.cstar_base.specs.Operators.{operand, outcome, is_below, is_at_most}
use Rattle.cstar_base.proofs.NumberLaws.{kind_bits, number_in_lower, number_unsigned, residue_of_number, residue_of_pos}
use Rattle.source_meaning.specs.Reductions.{int_type}
use Rattle.lower_base.specs.Operators.{relates}
use Rattle.phase_meaning.proofs.Operations.{word}
use Rattle.phase_meaning.proofs.Widths.{number_in_word}

-- two numbers are the same where their words are
same_words : (bits : ℕ) (signed : Bool) (m n : ℕ) → 1 ≤ bits → bits ≤ 32 → m < 2 ^ bits → n < 2 ^ bits → eqb m n ≡ eqb (word bits signed m) (word bits signed n)
same_words bits signed m n some most p q = elim (cases_eq m n) [
  | inl e ↦ eq-eqb m n e ∙ sym (eq-eqb (word bits signed m) (word bits signed n) (ap (word bits signed) e))
  | inr other ↦ ne_eqb m n other ∙ sym (ne_eqb (word bits signed m) (word bits signed n) (λ e. other (
      sym (residue_of_number bits signed m p)
      ∙ ap (residue bits) (sym (number_in_word bits signed m some most p) ∙ ap (number_of 32 signed) e ∙ number_in_word bits signed n some most q)
      ∙ residue_of_number bits signed n q)))
]

-- the word of an unsigned narrow type is in the lower half of the words
plain_word : (bits n : ℕ) → bits < 32 → n < 2 ^ bits → number_of 32 true (word bits false n) ≡ number_of bits false n
plain_word bits n narrow h =
    let half : 2 ^ bits ≤ 2 ^ 31 = pow-le-pow_right (lit< tt) (let e : bits ≤ 31 = omega arith in e) in
    let is : word bits false n ≡ n = ap (residue 32) (number_unsigned bits n) ∙ residue_of_pos 32 n ∙ mod-eq_of_lt (omega arith) in
    ap (number_of 32 true) is ∙ number_in_lower 32 n (omega arith) ∙ sym (number_unsigned bits n)

-- a word that is read signed where the type is, and else either way
read_back : (bits : ℕ) (signed unsigned : Bool) (n : ℕ) → 1 ≤ bits → bits < 32 → (signed ≡ true → unsigned ≡ false) → n < 2 ^ bits
    → operand bits (not signed) n ≡ operand 32 unsigned (word bits signed n)
unfolding operand
read_back bits true true n some narrow h p = let e = h refl in cc
read_back bits true false n some narrow h p = sym (number_in_word bits true n some (omega arith) p)
read_back bits false true n some narrow h p = sym (number_in_word bits false n some (omega arith) p)
read_back bits false false n some narrow h p = sym (plain_word bits n narrow p)

compared : (op : Op) (bits : ℕ) (signed unsigned : Bool) (m n : ℕ) → relates op ≡ true → 1 ≤ bits → bits < 32 → (signed ≡ true → unsigned ≡ false)
    → m < 2 ^ bits → n < 2 ^ bits
    → outcome op bits (not signed) m n ≡ outcome op 32 unsigned (word bits signed m) (word bits signed n)
unfolding outcome relates is_below is_at_most
compared P.Eq bits s u m n r some narrow h p q = ap from_bool (same_words bits s m n some (omega arith) p q)
compared P.Ne bits s u m n r some narrow h p q = ap (λ t. from_bool (not t)) (same_words bits s m n some (omega arith) p q)
compared P.Lt bits s u m n r some narrow h p q =
    ap (λ x. from_bool (int_lt x (operand bits (not s) n))) (read_back bits s u m some narrow h p)
    ∙ ap (λ y. from_bool (int_lt (operand 32 u (word bits s m)) y)) (read_back bits s u n some narrow h q)
compared P.Le bits s u m n r some narrow h p q =
    ap (λ x. from_bool (int_le x (operand bits (not s) n))) (read_back bits s u m some narrow h p)
    ∙ ap (λ y. from_bool (int_le (operand 32 u (word bits s m)) y)) (read_back bits s u n some narrow h q)
compared P.Gt bits s u m n r some narrow h p q =
    ap (λ x. from_bool (int_lt x (operand bits (not s) m))) (read_back bits s u n some narrow h q)
    ∙ ap (λ y. from_bool (int_lt (operand 32 u (word bits s n)) y)) (read_back bits s u m some narrow h p)
compared P.Ge bits s u m n r some narrow h p q =
    ap (λ x. from_bool (int_le x (operand bits (not s) m))) (read_back bits s u n some narrow h q)
    ∙ ap (λ y. from_bool (int_le (operand 32 u (word bits s n)) y)) (read_back bits s u m some narrow h p)
compared _ bits s u m n r some narrow h p q = cc

pub comparison : (op : Op) (kind : Elem) (unsigned : Bool) (m n : ℕ) → relates op ≡ true → kind.bits < 32 → (kind.signed ≡ true → unsigned ≡ false)
    → m < 2 ^ kind.bits → n < 2 ^ kind.bits
    → outcome op kind.bits (not kind.signed) m n ≡ outcome op 32 unsigned (converted int_type kind m) (converted int_type kind n)
unfolding converted
comparison op kind u m n r narrow h p q = compared op kind.bits kind.signed u m n r (kind_bits kind.bits kind.signed kind.kind).0 narrow h p q
