-- One escape stands at a place.
use Rattle.std.proofs.Common.{◌≡◌, ℕ, ◌+◌, ◌-◌, ◌<◌, ◌≤◌, ◌^◌, suc, zero, inl, inr, Bool, true, false, List, [], ◌∷◌, length, take, drop, get_or, get_or-drop, arith, refl, sym, ap, ◌∙◌, subst}
use Rattle.std.specs.Prelude.{min, slice_index, Some}
use Rattle.std.specs.List.{prefix_len}
use Rattle.std.proofs.lemmas.List.Sums.{prefix_len_passes, prefix_len-le-length}
use Rattle.std.proofs.lemmas.Bool.{cases_lt, cases_order}
use Rattle.std.proofs.lemmas.Bool.Decides.{nat_tests}
use Rattle.cstar_lexer.specs.Constants.{digit_of, is_digit, value_of}
use Rattle.cstar_lexer.specs.Quoted.{IsBad, IsCut, IsEscape, escape_letter}
use Rattle.cstar_lexer.specs.Bytes.{LineEnds}
use Rattle.cstar_lexer.specs.Pieces.{EscapeIs, IsNumeric}
use Rattle.cstar_lexer.specs.declared.quoted.Escape.{Escape}
use Rattle.cstar_lexer.specs.declared.quoted.Escape.TheVariants as E
use Rattle.cstar_lexer.proofs.Longest.{byte_within}
use Rattle.std.proofs.lemmas.List.{get_or_default, length-drop, take-take}
use Rattle.cstar_lexer.specs.Quoted as Q

pub drop_one : (bytes : List ℕ) → get_or (drop 1 bytes) 0 0 ≡ get_or bytes 1 0
drop_one [] = refl
drop_one (x ∷ bytes) = refl

octal_no_letter : (x v : ℕ) → is_digit 8 x ≡ true → escape_letter x ≡ Some v → ⊥
unfolding is_digit escape_letter digit_of
octal_no_letter x v d e = grind (arith, nat_tests)

x_no_letter : (v : ℕ) → escape_letter 120 ≡ Some v → ⊥
unfolding escape_letter
x_no_letter v e = cc

octal_no_x : is_digit 8 120 ≡ true → ⊥
unfolding is_digit digit_of
octal_no_x e = cc

first_octal : (bytes : List ℕ) (n : ℕ) → n ≡ min 3 (prefix_len (is_digit 8) (drop 1 bytes)) → 0 < n → is_digit 8 (slice_index bytes 1) ≡ true
first_octal bytes n is some = subst (λ (b : ℕ). is_digit 8 b ≡ true) (drop_one bytes) (prefix_len_passes (is_digit 8) (drop 1 bytes) 0 0 (omega arith))

pub one_escape : {bytes : List ℕ} {n m v w : ℕ} → IsEscape bytes n v → IsEscape bytes m w → (n ≡ m) × (v ≡ w)
one_escape (Q.letter a e is) (Q.letter b f same) = (is ∙ sym same, cc)
one_escape {bytes} (Q.letter a e is) (Q.octal b d some f same) = absurd (octal_no_letter _ _ (first_octal bytes _ d some) e)
one_escape {bytes} (Q.letter a e is) (Q.hexadecimal b x d some f same) = absurd (x_no_letter _ (rw x at e))
one_escape {bytes} (Q.octal b d some f same) (Q.letter a e is) = absurd (octal_no_letter _ _ (first_octal bytes _ d some) e)
one_escape {bytes} (Q.octal {digits = i} b d some f is) (Q.octal {digits = j} a c few g same) =
    let e : i ≡ j = d ∙ sym c in (is ∙ (ap (λ (k : ℕ). k + 1) e ∙ sym same), f ∙ (ap (λ (k : ℕ). value_of 8 (take k (drop 1 bytes))) e ∙ sym g))
one_escape {bytes} (Q.octal b d some f same) (Q.hexadecimal a x c few g is) = absurd (octal_no_x (rw x at (first_octal bytes _ d some)))
one_escape {bytes} (Q.hexadecimal b x d some f same) (Q.letter a e is) = absurd (x_no_letter _ (rw x at e))
one_escape {bytes} (Q.hexadecimal a x c few g is) (Q.octal b d some f same) = absurd (octal_no_x (rw x at (first_octal bytes _ d some)))
one_escape {bytes} (Q.hexadecimal {digits = i} a x d some f is) (Q.hexadecimal {digits = j} b y c few g same) =
    let e : i ≡ j = d ∙ sym c in (is ∙ (ap (λ (k : ℕ). k + 2) e ∙ sym same), f ∙ (ap (λ (k : ℕ). value_of 16 (take k (drop 2 bytes))) e ∙ sym g))

-- a line does not end with such a byte
pub not_end : (bytes : List ℕ) (at b : ℕ) → get_or bytes at 0 ≡ b → (b ≡ 0 → ⊥) → (b ≡ 10 → ⊥) → LineEnds bytes at → ⊥
not_end bytes at b is some no_newline ends =
    let within : at < length bytes = byte_within bytes at (λ z. some (sym is ∙ z)) in
    no_newline (sym is ∙ (sym (get_or_default bytes at 10 0 within) ∙ ends))

pub bad_hexadecimal : (bytes : List ℕ) (n : ℕ) → slice_index bytes 0 ≡ 92 → slice_index bytes 1 ≡ 120 → (LineEnds bytes 2 → ⊥) → n ≡ prefix_len (is_digit 16) (drop 2 bytes) → n ≡ 0 → IsBad bytes
bad_hexadecimal bytes n begins x on_line is nothing = record { begins = begins; goes_on = uncut; none = none }
  where
    uncut : IsCut bytes → ⊥
    uncut (b, inl ends) = not_end bytes 1 120 x (λ e. absurd (omega arith)) (λ e. absurd (omega arith)) ends
    uncut (b, inr (y, ends)) = on_line ends

    none : (m value : ℕ) → IsEscape bytes m value → ⊥
    none m value (Q.letter a e long) = x_no_letter value (rw x at e)
    none m value (Q.octal a d some f long) = octal_no_x (rw x at (first_octal bytes _ d some))
    none m value (Q.hexadecimal a y d some f long) = omega arith

-- a kept value below 256 is the value
pub numeric_escape : (escape : Escape) (bytes : List ℕ) (value kept n : ℕ) → kept ≡ min (2 ^ 32) value → IsEscape bytes n value → IsNumeric escape kept n → EscapeIs escape bytes
numeric_escape (E.Byte byte m) bytes value kept n cut is (same, small, long) =
    let e : value ≡ byte = omega arith in (subst (λ (v : ℕ). IsEscape bytes m v) e (subst (λ (k : ℕ). IsEscape bytes k value) (sym long) is), omega arith)
numeric_escape (E.Wide m) bytes value kept n cut is (large, long) = (value, subst (λ (k : ℕ). IsEscape bytes k value) (sym long) is, omega arith)
numeric_escape E.Bad bytes value kept n cut is none = absurd none
numeric_escape E.Ends bytes value kept n cut is none = absurd none

prefix_len-take : (p : ℕ → Bool) (m : ℕ) (xs : List ℕ) → prefix_len p (take m xs) ≡ min m (prefix_len p xs)
prefix_len-take p zero xs = omega arith
prefix_len-take p (suc m) [] = omega arith
prefix_len-take p (suc m) (x ∷ xs) = step (p x) refl (prefix_len-take p m xs)
  where
    step : (b : Bool) → p x ≡ b → prefix_len p (take m xs) ≡ min m (prefix_len p xs) → prefix_len p (x ∷ take m xs) ≡ min (suc m) (prefix_len p (x ∷ xs))
    step true h more = rw h (omega (arith, more))
    step false h more = rw h (omega arith)

-- the digits of an octal escape among the next three bytes
pub three_digits : (bytes : List ℕ) (j n : ℕ) → 1 < length bytes → j ≡ min (length bytes) 4 → n ≡ prefix_len (is_digit 8) (take (j - 1) (drop 1 bytes)) → (n ≡ min 3 (prefix_len (is_digit 8) (drop 1 bytes))) × (take n (take (j - 1) (drop 1 bytes)) ≡ take n (drop 1 bytes))
three_digits bytes j n some is run =
    let shorter : n ≡ min (j - 1) (prefix_len (is_digit 8) (drop 1 bytes)) = run ∙ prefix_len-take (is_digit 8) (j - 1) (drop 1 bytes) in
    let all : prefix_len (is_digit 8) (drop 1 bytes) ≤ length (drop 1 bytes) = prefix_len-le-length (is_digit 8) (drop 1 bytes) in
    let long : length (drop 1 bytes) ≡ length bytes - 1 = length-drop 1 bytes in
    (omega arith, take-take n (j - 1) (drop 1 bytes) (omega arith))

-- a `\` that the line cuts begins no escape
letter_on_line : (x v : ℕ) → escape_letter x ≡ Some v → (x ≡ 0 → ⊥) × (x ≡ 10 → ⊥)
unfolding escape_letter
letter_on_line x v e = (λ z. absurd (let f = rw z at e in cc), λ z. absurd (let f = rw z at e in cc))

digit_on_line : (r x : ℕ) → is_digit r x ≡ true → (x ≡ 0 → ⊥) × (x ≡ 10 → ⊥)
unfolding is_digit
digit_on_line r x d = (λ z. grind (arith, nat_tests), λ z. grind (arith, nat_tests))

pub drop_two : (bytes : List ℕ) → get_or (drop 2 bytes) 0 0 ≡ get_or bytes 2 0
drop_two [] = refl
drop_two (x ∷ []) = refl
drop_two (x ∷ y ∷ bytes) = refl

first_hexadecimal : (bytes : List ℕ) (n : ℕ) → n ≡ prefix_len (is_digit 16) (drop 2 bytes) → 0 < n → is_digit 16 (slice_index bytes 2) ≡ true
first_hexadecimal bytes n is some = subst (λ (b : ℕ). is_digit 16 b ≡ true) (drop_two bytes) (prefix_len_passes (is_digit 16) (drop 2 bytes) 0 0 (omega arith))

pub cut_no_escape : {bytes : List ℕ} {n v : ℕ} → IsCut bytes → IsEscape bytes n v → ⊥
cut_no_escape {bytes} (b, inl ends) (Q.letter a e long) = let on = letter_on_line _ _ e in not_end bytes 1 _ refl on.0 on.1 ends
cut_no_escape {bytes} (b, inl ends) (Q.octal a d some f long) = let on = digit_on_line 8 _ (first_octal bytes _ d some) in not_end bytes 1 _ refl on.0 on.1 ends
cut_no_escape {bytes} (b, inl ends) (Q.hexadecimal a x d some f long) = not_end bytes 1 120 x (λ e. absurd (omega arith)) (λ e. absurd (omega arith)) ends
cut_no_escape {bytes} (b, inr (x, ends)) (Q.letter a e long) = x_no_letter _ (rw x at e)
cut_no_escape {bytes} (b, inr (x, ends)) (Q.octal a d some f long) = octal_no_x (rw x at (first_octal bytes _ d some))
cut_no_escape {bytes} (b, inr (x, ends)) (Q.hexadecimal a y d some f long) = let on = digit_on_line 16 _ (first_hexadecimal bytes _ d some) in not_end bytes 2 _ refl on.0 on.1 ends

pub escape_begins : {bytes : List ℕ} {n v : ℕ} → IsEscape bytes n v → slice_index bytes 0 ≡ 92
escape_begins (Q.letter a e long) = a
escape_begins (Q.octal a d some f long) = a
escape_begins (Q.hexadecimal a x d some f long) = a

pub escape_long : {bytes : List ℕ} {n v : ℕ} → IsEscape bytes n v → 1 < n
escape_long (Q.letter a e long) = omega arith
escape_long (Q.octal a d some f long) = omega arith
escape_long (Q.hexadecimal a x d some f long) = omega arith

-- no byte of an escape ends its line
pub escape_on_line : {bytes : List ℕ} {n v : ℕ} → IsEscape bytes n v → (k : ℕ) → k < n → get_or bytes k 0 ≡ 10 → ⊥
escape_on_line {bytes} (Q.letter a e long) k h ten = elim (cases_order k 0) [
  | inl first ↦ absurd (let z = rw first at ten in omega (arith, a))
  | inr apart ↦ let one : k ≡ 1 = elim apart [ inl less ↦ absurd (omega arith) | inr more ↦ omega arith ] in (letter_on_line _ _ e).1 (rw one at ten)
]
escape_on_line {bytes} (Q.octal a d some f long) k h ten = elim (cases_order k 0) [
  | inl first ↦ absurd (let z = rw first at ten in omega (arith, a))
  | inr apart ↦ let more : 1 ≤ k = elim apart [ inl less ↦ absurd (omega arith) | inr more ↦ omega arith ] in
      let at : get_or (drop 1 bytes) (k - 1) 0 ≡ get_or bytes (1 + (k - 1)) 0 = get_or-drop 1 bytes (k - 1) 0 in
      let same : 1 + (k - 1) ≡ k = omega arith in
      (digit_on_line 8 _ (prefix_len_passes (is_digit 8) (drop 1 bytes) (k - 1) 0 (omega arith))).1 (at ∙ (ap (λ (i : ℕ). get_or bytes i 0) same ∙ ten))
]
escape_on_line {bytes} (Q.hexadecimal a x d some f long) k h ten = elim (cases_lt k 2) [
  | inl low ↦ elim (cases_order k 0) [
    | inl first ↦ absurd (let z = rw first at ten in omega (arith, a))
    | inr apart ↦ absurd (let one : k ≡ 1 = elim apart [ inl less ↦ absurd (omega arith) | inr more ↦ omega arith ] in let z = rw one at ten in omega (arith, x))
  ]
  | inr high ↦
      let at : get_or (drop 2 bytes) (k - 2) 0 ≡ get_or bytes (2 + (k - 2)) 0 = get_or-drop 2 bytes (k - 2) 0 in
      let same : 2 + (k - 2) ≡ k = omega arith in
      (digit_on_line 16 _ (prefix_len_passes (is_digit 16) (drop 2 bytes) (k - 2) 0 (omega arith))).1 (at ∙ (ap (λ (i : ℕ). get_or bytes i 0) same ∙ ten))
]
