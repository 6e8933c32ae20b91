-- The longest constant at the beginning of a text, and that it is one.
use Rattle.std.proofs.Common.{◌≡◌, ℕ, ◌+◌, ◌-◌, ◌<◌, ◌≤◌, ◌^◌, inl, inr, Bool, true, false, ◌&&◌, ◌||◌, ◌==◌, List, [], ◌∷◌, length, length-drop, take, drop, get_or, get_or-drop, arith, lit≤, refl, sym, ap, subst, ◌∙◌}
use Rattle.std.specs.Prelude.{min, slice_index}
use Rattle.std.specs.List.{prefix_len}
use Rattle.std.proofs.lemmas.List.{get_or_past}
use Rattle.std.proofs.lemmas.List.Sums.{prefix_len-le-length, prefix_len_passes}
use Rattle.std.proofs.lemmas.Bool.{cases_order, cases_lt, eqb-true, and_from, and_parts}
use Rattle.std.proofs.lemmas.Bool.Decides.{nat_tests}
use Rattle.cstar_lexer.specs.Bytes.{is_figure}
use Rattle.cstar_lexer.specs.Constants.{IsConstant, IsLongestConstant, IsLongestNumeral, IsLongestSuffix, IsKeptConstant, IsNumeral, IsSuffix, begins_hexadecimal, digit_of, is_digit, is_l, is_u, is_x, value_of}
use Rattle.cstar_lexer.specs.Constants as C

-- a byte of a constant without its suffix
unfoldable pub is_inner : ℕ → Bool
is_inner byte = is_digit 16 byte || is_x byte

wider : (r x : ℕ) → r ≤ 16 → is_digit r x ≡ true → is_digit 16 x ≡ true
unfolding is_digit
wider r x h d = grind (arith, nat_tests)

inner_digit : (r x : ℕ) → r ≤ 16 → is_digit r x ≡ true → is_inner x ≡ true
unfolding is_inner
inner_digit r x h d = let e : is_digit 16 x ≡ true = wider r x h d in rw e refl

inner_x : (x : ℕ) → is_x x ≡ true → is_inner x ≡ true
unfolding is_inner
inner_x x h = elim (is_digit 16 x) as (λ b. (b || is_x x) ≡ true) [ true ↦ refl | false ↦ h ]

inner_zero : is_inner 48 ≡ true
unfolding is_inner is_digit is_x digit_of
inner_zero = refl

pub no_u : (x : ℕ) → is_inner x ≡ true → is_u x ≡ true → ⊥
unfolding is_inner is_digit is_x is_u
no_u x h k = grind (arith, nat_tests)

pub no_l : (x : ℕ) → is_inner x ≡ true → is_l x ≡ true → ⊥
unfolding is_inner is_digit is_x is_l
no_l x h k = grind (arith, nat_tests)

no_digit_x : (r x : ℕ) → is_digit r x ≡ true → is_x x ≡ true → ⊥
unfolding is_digit is_x
no_digit_x r x h k = grind (arith, nat_tests)

-- the bytes of a constant without its suffix
pub inner_bytes : {bytes : List ℕ} {n v : ℕ} → IsNumeral bytes n v → (k : ℕ) → k < n → is_inner (get_or bytes k 0) ≡ true
inner_bytes {bytes} (C.decimal some all other is) k h = inner_digit 10 _ (omega arith) (prefix_len_passes (is_digit 10) bytes k 0 (omega arith))
inner_bytes {bytes} (C.octal some all zero is) k h = inner_digit 8 _ (omega arith) (prefix_len_passes (is_digit 8) bytes k 0 (omega arith))
inner_bytes {bytes} (C.hexadecimal {digits = j} zero x some all is long) k h = elim (cases_lt k 2) [
  | inl low ↦ elim (cases_order k 0) [
    | inl first ↦ rw (first, zero) inner_zero
    | inr other ↦ let one : k ≡ 1 = elim other [ inl a ↦ absurd (omega arith) | inr b ↦ omega arith ] in rw one (inner_x _ x)
  ]
  | inr high ↦ let at : get_or (drop 2 bytes) (k - 2) 0 ≡ get_or bytes (2 + (k - 2)) 0 = get_or-drop 2 bytes (k - 2) 0 in
      let same : 2 + (k - 2) ≡ k = omega arith in
      inner_digit 16 _ (omega arith) (subst (λ (i : ℕ). is_digit 16 (get_or bytes i 0) ≡ true) same (subst (λ (x : ℕ). is_digit 16 x ≡ true) at (prefix_len_passes (is_digit 16) (drop 2 bytes) (k - 2) 0 (omega arith))))
]

-- where a constant goes on, no suffix stands
pub no_suffix : {bytes : List ℕ} {n : ℕ} {s : Bool} → is_inner (slice_index bytes 0) ≡ true → IsSuffix bytes n s → n ≡ 0
no_suffix h C.none = refl
no_suffix h (C.u k) = absurd (no_u _ h k)
no_suffix h (C.l k) = absurd (no_l _ h k)
no_suffix h (C.ul k m) = absurd (no_u _ h k)
no_suffix h (C.lu k m) = absurd (no_l _ h k)

drop_first : (bytes : List ℕ) (k : ℕ) → get_or (drop k bytes) 0 0 ≡ get_or bytes k 0
drop_first bytes k = let e : get_or (drop k bytes) 0 0 ≡ get_or bytes (k + 0) 0 = get_or-drop k bytes 0 0 in let z : k + 0 ≡ k = omega arith in subst (λ (i : ℕ). get_or (drop k bytes) 0 0 ≡ get_or bytes i 0) z e

-- behind a beginning of a longer one no suffix stands
pub short_alone : {bytes : List ℕ} {n v k j : ℕ} {s : Bool} → IsNumeral bytes n v → k < n → IsSuffix (drop k bytes) j s → j ≡ 0
short_alone {bytes} {n} {v} {k} {j} {s} numeral h suffix = no_suffix (rw (drop_first bytes k) (inner_bytes numeral k h)) suffix

pub longest_constant : (bytes : List ℕ) (k j kept : ℕ) (s : Bool) → IsLongestNumeral bytes k kept → IsLongestSuffix (drop k bytes) j s → IsKeptConstant bytes (k + j) kept s
longest_constant bytes k j kept s numeral suffix = record {
  value = numeral.value;
  cut = numeral.cut;
  constant = record {
    constant = record { digits = k; letters = j; numeral = numeral.numeral; suffix = suffix.suffix; whole = refl };
    longest = λ m v t c. elim (cases_lt c.digits k) [
      | inl short ↦ let none : c.letters ≡ 0 = short_alone numeral.numeral short c.suffix in omega (arith, none, c.whole)
      | inr not_short ↦ let most : c.digits ≤ k = numeral.longest c.digits v c.numeral in
          let same : c.digits ≡ k = omega arith in
          let few : c.letters ≤ j = suffix.longest c.letters t (subst (λ (i : ℕ). IsSuffix (drop i bytes) c.letters t) same c.suffix) in omega (arith, few, c.whole, same)
    ];
  };
}

pub decimal_most : (bytes : List ℕ) (n : ℕ) → (slice_index bytes 0 ≡ 48 → ⊥) → n ≡ prefix_len (is_digit 10) bytes → (m v : ℕ) → IsNumeral bytes m v → m ≤ n
decimal_most bytes n bare is m v (C.decimal some all other same) = omega arith
decimal_most bytes n bare is m v (C.octal some all zero same) = absurd (bare zero)
decimal_most bytes n bare is m v (C.hexadecimal zero x some all same long) = absurd (bare zero)

begun_hexadecimal : (bytes : List ℕ) (digits : ℕ) → slice_index bytes 0 ≡ 48 → is_x (slice_index bytes 1) ≡ true → 0 < digits → digits ≤ prefix_len (is_digit 16) (drop 2 bytes) → begins_hexadecimal bytes ≡ true
unfolding begins_hexadecimal
begun_hexadecimal bytes digits zero x some all = and_from _ _ (and_from _ _ (rw zero refl) x) (subst (λ (b : ℕ). is_digit 16 b ≡ true) (drop_first bytes 2) (prefix_len_passes (is_digit 16) (drop 2 bytes) 0 0 (omega arith)))

pub octal_most : (bytes : List ℕ) (n : ℕ) → slice_index bytes 0 ≡ 48 → begins_hexadecimal bytes ≡ false → n ≡ prefix_len (is_digit 8) bytes → (m v : ℕ) → IsNumeral bytes m v → m ≤ n
octal_most bytes n first not_x is m v (C.decimal some all other same) = absurd (other first)
octal_most bytes n first not_x is m v (C.octal some all zero same) = omega arith
octal_most bytes n first not_x is m v (C.hexadecimal {digits = j} zero x some all same long) = absurd (let e : begins_hexadecimal bytes ≡ true = begun_hexadecimal bytes j zero x some all in cc)

pub hexadecimal_most : (bytes : List ℕ) (n : ℕ) → slice_index bytes 0 ≡ 48 → is_x (slice_index bytes 1) ≡ true → 2 ≤ n → n ≡ prefix_len (is_digit 16) (drop 2 bytes) + 2 → (m v : ℕ) → IsNumeral bytes m v → m ≤ n
hexadecimal_most bytes n first x two is m v (C.decimal some all other same) = absurd (other first)
hexadecimal_most bytes n first x two is m v (C.octal some all zero same) = elim (cases_lt 1 m) [
  | inl more ↦ absurd (no_digit_x 8 _ (prefix_len_passes (is_digit 8) bytes 1 0 (omega arith)) x)
  | inr few ↦ omega arith
]
hexadecimal_most bytes n first x two is m v (C.hexadecimal zero y some all same long) = omega arith

pub hexadecimal_parts : (bytes : List ℕ) → begins_hexadecimal bytes ≡ true → (slice_index bytes 0 ≡ 48) × (is_x (slice_index bytes 1) ≡ true) × (is_digit 16 (slice_index bytes 2) ≡ true)
unfolding begins_hexadecimal
hexadecimal_parts bytes h =
    let p : ((slice_index bytes 0 == 48 && is_x (slice_index bytes 1)) ≡ true) × (is_digit 16 (slice_index bytes 2) ≡ true) = and_parts _ _ h in
    let q : ((slice_index bytes 0 == 48) ≡ true) × (is_x (slice_index bytes 1) ≡ true) = and_parts _ _ p.0 in
    (eqb-true _ _ q.0, q.1, p.1)

pub digit_first : (radix : ℕ) (bytes : List ℕ) → is_digit radix (slice_index bytes 0) ≡ true → 0 < length bytes → 0 < prefix_len (is_digit radix) bytes
digit_first radix [] h some = absurd (omega arith)
digit_first radix (x ∷ bytes) h some = rw h (omega arith)

-- one byte that begins a constant begins one of its digits
pub figure_ten : (x : ℕ) → is_figure x ≡ true → is_digit 10 x ≡ true
unfolding is_figure is_digit digit_of
figure_ten x h = grind (arith, nat_tests)

pub figure_inside : (bytes : List ℕ) → is_figure (slice_index bytes 0) ≡ true → 0 < length bytes
unfolding is_figure
figure_inside [] h = cc
figure_inside (x ∷ bytes) h = omega arith

pub decimal_numeral : (bytes : List ℕ) (n kept : ℕ) → is_figure (slice_index bytes 0) ≡ true → (slice_index bytes 0 ≡ 48 → ⊥) → n ≡ prefix_len (is_digit 10) bytes → kept ≡ min (2 ^ 32) (value_of 10 (take n bytes)) → IsLongestNumeral bytes n kept
decimal_numeral bytes n kept figure bare is cut =
    let some : 0 < prefix_len (is_digit 10) bytes = digit_first 10 bytes (figure_ten _ figure) (figure_inside bytes figure) in record {
      value = value_of 10 (take n bytes);
      cut = cut;
      numeral = C.decimal (omega arith) (omega arith) bare refl;
      longest = decimal_most bytes n bare is;
    }

zero_eight : (bytes : List ℕ) → slice_index bytes 0 ≡ 48 → is_digit 8 (slice_index bytes 0) ≡ true
unfolding is_digit digit_of
zero_eight bytes h = rw h refl

pub octal_numeral : (bytes : List ℕ) (n kept : ℕ) → is_figure (slice_index bytes 0) ≡ true → slice_index bytes 0 ≡ 48 → begins_hexadecimal bytes ≡ false → n ≡ prefix_len (is_digit 8) bytes → kept ≡ min (2 ^ 32) (value_of 8 (take n bytes)) → IsLongestNumeral bytes n kept
octal_numeral bytes n kept figure zero not_x is cut =
    let some : 0 < prefix_len (is_digit 8) bytes = digit_first 8 bytes (zero_eight bytes zero) (figure_inside bytes figure) in record {
      value = value_of 8 (take n bytes);
      cut = cut;
      numeral = C.octal (omega arith) (omega arith) zero refl;
      longest = octal_most bytes n zero not_x is;
    }

digit_not_zero : (x : ℕ) → x ≡ 0 → is_digit 16 x ≡ true → ⊥
unfolding is_digit
digit_not_zero x h d = grind (arith, nat_tests)

digit_inside : (bytes : List ℕ) → is_digit 16 (get_or bytes 0 0) ≡ true → 0 < length bytes
digit_inside [] h = absurd (digit_not_zero 0 refl h)
digit_inside (x ∷ bytes) h = omega arith

pub hexadecimal_numeral : (bytes : List ℕ) (n j kept : ℕ) → begins_hexadecimal bytes ≡ true → j ≡ prefix_len (is_digit 16) (drop 2 bytes) → n ≡ j + 2 → kept ≡ min (2 ^ 32) (value_of 16 (take j (drop 2 bytes))) → IsLongestNumeral bytes n kept
hexadecimal_numeral bytes n j kept begins is long cut =
    let parts = hexadecimal_parts bytes begins in
    let first : is_digit 16 (get_or (drop 2 bytes) 0 0) ≡ true = rw (drop_first bytes 2) parts.2 in
    let some : 0 < prefix_len (is_digit 16) (drop 2 bytes) = digit_first 16 (drop 2 bytes) first (digit_inside (drop 2 bytes) first) in record {
      value = value_of 16 (take j (drop 2 bytes));
      cut = cut;
      numeral = C.hexadecimal parts.0 parts.1 (omega arith) (omega arith) refl long;
      longest = hexadecimal_most bytes n parts.0 parts.1 (omega arith) (omega arith);
    }

-- one suffix has one reading
both_letters : (x : ℕ) → is_u x ≡ true → is_l x ≡ true → ⊥
unfolding is_u is_l
both_letters x h k = grind (arith, nat_tests)

pub one_suffix : {bytes : List ℕ} {n m : ℕ} {s t : Bool} → IsSuffix bytes n s → IsSuffix bytes m t → n ≡ m → s ≡ t
one_suffix C.none C.none e = refl
one_suffix C.none (C.u k) e = absurd (omega arith)
one_suffix C.none (C.l k) e = absurd (omega arith)
one_suffix C.none (C.ul k a) e = absurd (omega arith)
one_suffix C.none (C.lu k a) e = absurd (omega arith)
one_suffix (C.u h) C.none e = absurd (omega arith)
one_suffix (C.u h) (C.u k) e = refl
one_suffix (C.u h) (C.l k) e = absurd (both_letters _ h k)
one_suffix (C.u h) (C.ul k a) e = absurd (omega arith)
one_suffix (C.u h) (C.lu k a) e = absurd (omega arith)
one_suffix (C.l h) C.none e = absurd (omega arith)
one_suffix (C.l h) (C.u k) e = absurd (both_letters _ k h)
one_suffix (C.l h) (C.l k) e = refl
one_suffix (C.l h) (C.ul k a) e = absurd (omega arith)
one_suffix (C.l h) (C.lu k a) e = absurd (omega arith)
one_suffix (C.ul h b) C.none e = absurd (omega arith)
one_suffix (C.ul h b) (C.u k) e = absurd (omega arith)
one_suffix (C.ul h b) (C.l k) e = absurd (omega arith)
one_suffix (C.ul h b) (C.ul k a) e = refl
one_suffix (C.ul h b) (C.lu k a) e = refl
one_suffix (C.lu h b) C.none e = absurd (omega arith)
one_suffix (C.lu h b) (C.u k) e = absurd (omega arith)
one_suffix (C.lu h b) (C.l k) e = absurd (omega arith)
one_suffix (C.lu h b) (C.ul k a) e = refl
one_suffix (C.lu h b) (C.lu k a) e = refl

-- one numeral has one value
octal_short : (bytes : List ℕ) (n : ℕ) → is_x (slice_index bytes 1) ≡ true → n ≤ prefix_len (is_digit 8) bytes → n ≤ 1
octal_short bytes n x all = elim (cases_lt 1 n) [ inl more ↦ absurd (no_digit_x 8 _ (prefix_len_passes (is_digit 8) bytes 1 0 (omega arith)) x) | inr few ↦ few ]

pub one_numeral : {bytes : List ℕ} {n m v w : ℕ} → IsNumeral bytes n v → IsNumeral bytes m w → n ≡ m → v ≡ w
one_numeral {bytes} (C.decimal a b other is) (C.decimal c d not same) e = is ∙ (ap (λ (i : ℕ). value_of 10 (take i bytes)) e ∙ sym same)
one_numeral (C.decimal a b other is) (C.octal c d zero same) e = absurd (other zero)
one_numeral (C.decimal a b other is) (C.hexadecimal zero x c d same long) e = absurd (other zero)
one_numeral (C.octal a b zero is) (C.decimal c d not same) e = absurd (not zero)
one_numeral {bytes} (C.octal a b zero is) (C.octal c d z same) e = is ∙ (ap (λ (i : ℕ). value_of 8 (take i bytes)) e ∙ sym same)
one_numeral {bytes} {n} (C.octal a b zero is) (C.hexadecimal z x c d same long) e = absurd (let few : n ≤ 1 = octal_short bytes n x b in omega arith)
one_numeral (C.hexadecimal zero x a b is long) (C.decimal c d not same) e = absurd (not zero)
one_numeral {bytes} {n} {m} (C.hexadecimal zero x a b is long) (C.octal c d z same) e = absurd (let few : m ≤ 1 = octal_short bytes m x d in omega arith)
one_numeral {bytes} (C.hexadecimal {digits = i} zero x a b is long) (C.hexadecimal {digits = j} z y c d same far) e =
    let digits : i ≡ j = omega arith in is ∙ (ap (λ (i : ℕ). value_of 16 (take i (drop 2 bytes))) digits ∙ sym same)

same_digits : {bytes : List ℕ} {n v w : ℕ} {s t : Bool} → (a : IsConstant bytes n v s) → (b : IsConstant bytes n w t) → a.digits ≡ b.digits
same_digits a b = elim (cases_order a.digits b.digits) [
  | inl same ↦ same
  | inr apart ↦ elim apart [
    | inl less ↦ absurd (let none : a.letters ≡ 0 = short_alone b.numeral less a.suffix in omega (arith, a.whole, b.whole))
    | inr more ↦ absurd (let none : b.letters ≡ 0 = short_alone a.numeral more b.suffix in omega (arith, a.whole, b.whole))
  ]
]

pub one_constant : {bytes : List ℕ} {n m v w : ℕ} {s t : Bool} → IsLongestConstant bytes n v s → IsLongestConstant bytes m w t → (n ≡ m) × (v ≡ w) × (s ≡ t)
one_constant {bytes} {n} {m} {v} {w} {s} {t} a b =
    let up : n ≤ m = b.longest n v s a.constant in
    let down : m ≤ n = a.longest m w t b.constant in
    let same : n ≡ m = omega arith in
    let moved : IsConstant bytes n w t = subst (λ (i : ℕ). IsConstant bytes i w t) (sym same) b.constant in
    let digits : a.constant.digits ≡ moved.digits = same_digits a.constant moved in
    let letters : a.constant.letters ≡ moved.letters = omega (arith, a.constant.whole, moved.whole, digits) in
    let suffix : IsSuffix (drop a.constant.digits bytes) moved.letters t = subst (λ (i : ℕ). IsSuffix (drop i bytes) moved.letters t) (sym digits) moved.suffix in
    (same, one_numeral a.constant.numeral moved.numeral digits, one_suffix a.constant.suffix suffix letters)

-- a constant has a byte
pub some_bytes : {bytes : List ℕ} {n v : ℕ} → IsNumeral bytes n v → 0 < n
some_bytes (C.decimal some all other is) = some
some_bytes (C.octal some all zero is) = some
some_bytes (C.hexadecimal zero x some all is long) = omega arith

at_most_two : {bytes : List ℕ} {m : ℕ} {s : Bool} → IsSuffix bytes m s → m ≤ 2
at_most_two C.none = lit≤ tt
at_most_two (C.u h) = lit≤ tt
at_most_two (C.l h) = lit≤ tt
at_most_two (C.ul h k) = lit≤ tt
at_most_two (C.lu h k) = lit≤ tt

apart : {A : Type 0} {b : Bool} → b ≡ true → b ≡ false → A
apart h k = absurd (let e : true ≡ false = sym h ∙ k in cc)

one_u : {bytes : List ℕ} {m : ℕ} {s : Bool} → is_u (slice_index bytes 0) ≡ true → is_l (slice_index bytes 1) ≡ false → IsSuffix bytes m s → m ≤ 1
one_u a b C.none = lit≤ tt
one_u a b (C.u h) = lit≤ tt
one_u a b (C.l h) = lit≤ tt
one_u a b (C.ul h k) = apart k b
one_u a b (C.lu h k) = absurd (both_letters _ a h)

one_l : {bytes : List ℕ} {m : ℕ} {s : Bool} → is_l (slice_index bytes 0) ≡ true → is_u (slice_index bytes 1) ≡ false → IsSuffix bytes m s → m ≤ 1
one_l a b C.none = lit≤ tt
one_l a b (C.u h) = lit≤ tt
one_l a b (C.l h) = lit≤ tt
one_l a b (C.ul h k) = absurd (both_letters _ h a)
one_l a b (C.lu h k) = apart k b

no_letter : {bytes : List ℕ} {m : ℕ} {s : Bool} → is_u (slice_index bytes 0) ≡ false → is_l (slice_index bytes 0) ≡ false → IsSuffix bytes m s → m ≤ 0
no_letter a b C.none = lit≤ tt
no_letter a b (C.u h) = apart h a
no_letter a b (C.l h) = apart h b
no_letter a b (C.ul h k) = apart h a
no_letter a b (C.lu h k) = apart h b

-- the longest suffix by its first two bytes
pub suffix_ul : (bytes : List ℕ) → is_u (slice_index bytes 0) ≡ true → is_l (slice_index bytes 1) ≡ true → IsLongestSuffix bytes 2 true
suffix_ul bytes a b = record { suffix = C.ul a b; longest = λ m s h. at_most_two h }

pub suffix_lu : (bytes : List ℕ) → is_l (slice_index bytes 0) ≡ true → is_u (slice_index bytes 1) ≡ true → IsLongestSuffix bytes 2 true
suffix_lu bytes a b = record { suffix = C.lu a b; longest = λ m s h. at_most_two h }

pub suffix_u : (bytes : List ℕ) → is_u (slice_index bytes 0) ≡ true → is_l (slice_index bytes 1) ≡ false → IsLongestSuffix bytes 1 true
suffix_u bytes a b = record { suffix = C.u a; longest = λ m s h. one_u a b h }

pub suffix_l : (bytes : List ℕ) → is_l (slice_index bytes 0) ≡ true → is_u (slice_index bytes 1) ≡ false → IsLongestSuffix bytes 1 false
suffix_l bytes a b = record { suffix = C.l a; longest = λ m s h. one_l a b h }

pub suffix_none : (bytes : List ℕ) → is_u (slice_index bytes 0) ≡ false → is_l (slice_index bytes 0) ≡ false → IsLongestSuffix bytes 0 false
suffix_none bytes a b = record { suffix = C.none; longest = λ m s h. no_letter a b h }

-- what was read lies within the bytes
pub byte_within : (bytes : List ℕ) (k : ℕ) → (get_or bytes k 0 ≡ 0 → ⊥) → k < length bytes
byte_within bytes k h = elim (cases_lt k (length bytes)) [ inl within ↦ within | inr past ↦ absurd (h (get_or_past bytes k 0 past)) ]

u_not_zero : (x : ℕ) → is_u x ≡ true → x ≡ 0 → ⊥
unfolding is_u
u_not_zero x h k = grind (arith, nat_tests)

l_not_zero : (x : ℕ) → is_l x ≡ true → x ≡ 0 → ⊥
unfolding is_l
l_not_zero x h k = grind (arith, nat_tests)

pub within_suffix : {bytes : List ℕ} {n : ℕ} {s : Bool} → IsSuffix bytes n s → n ≤ length bytes
within_suffix C.none = omega arith
within_suffix {bytes} (C.u h) = byte_within bytes 0 (u_not_zero _ h)
within_suffix {bytes} (C.l h) = byte_within bytes 0 (l_not_zero _ h)
within_suffix {bytes} (C.ul h k) = byte_within bytes 1 (l_not_zero _ k)
within_suffix {bytes} (C.lu h k) = byte_within bytes 1 (u_not_zero _ k)

pub within_numeral : {bytes : List ℕ} {n v : ℕ} → IsNumeral bytes n v → n ≤ length bytes
within_numeral {bytes} (C.decimal some all other is) = omega (arith, prefix_len-le-length (is_digit 10) bytes)
within_numeral {bytes} (C.octal some all zero is) = omega (arith, prefix_len-le-length (is_digit 8) bytes)
within_numeral {bytes} (C.hexadecimal zero x some all is long) = omega (arith, prefix_len-le-length (is_digit 16) (drop 2 bytes), length-drop 2 bytes)

pub within_constant : {bytes : List ℕ} {n v : ℕ} {s : Bool} → IsConstant bytes n v s → n ≤ length bytes
within_constant {bytes} c = omega (arith, c.whole, within_numeral c.numeral, within_suffix c.suffix, length-drop c.digits bytes)

pub some_constant : {bytes : List ℕ} {n v : ℕ} {s : Bool} → IsConstant bytes n v s → 0 < n
some_constant c = omega (arith, c.whole, some_bytes c.numeral)

x_not_zero : (x : ℕ) → is_x x ≡ true → x ≡ 0 → ⊥
unfolding is_x
x_not_zero x h k = grind (arith, nat_tests)

pub two_before : (bytes : List ℕ) → begins_hexadecimal bytes ≡ true → 2 ≤ length bytes
two_before bytes h = let parts = hexadecimal_parts bytes h in byte_within bytes 1 (x_not_zero _ parts.1)
