-- What `parse` reads, in the words of the command's numbers.
use Rattle.std.proofs.Common.{refl, sym, ap, ◌∙◌, true, false, ◌≡◌, ◌≢◌, ◌≤◌, ◌<◌, ◌^◌, Bool, ℕ, List, [], ◌∷◌, length, Option, Some, None, Ok, Err, nat_eq, nat_lt, nat_le, get_or, true≢false, Bor, arith}
use Rattle.std.proofs.lemmas.Bool.{ltb-true, leb-true, lt-ltb, le-leb}
use Rattle.std.proofs.lemmas.Str.Parse.{IsNumeralModel, numerals_by_value, parse_plain, tells_all_ascii_digits}
use Rattle.std.specs.Option.{option_copied, option_eq, unwrap_or}
use Rattle.std.specs.Prelude.{slice_get}
use Rattle.std.specs.Str.{all_ascii_digits}
use Rattle.std.specs.Str.Parse.{ParsesUnsigned, digits_value}
use Rattle.cstar_words.specs.Numbers.{number_in}

own : IsNumeralModel (λ ds. all_ascii_digits ds ≡ true) (digits_value 10)
own = numerals_by_value _ tells_all_ascii_digits

-- the number that stands between the bounds
here : (low high : ℕ) (text : List ℕ) → all_ascii_digits text ≡ true → 0 < length text → low ≤ digits_value 10 text → digits_value 10 text ≤ high
    → number_in low high text ≡ Some (digits_value 10 text)
here low high text digits some above below =
    rw (lt-ltb 0 (length text) some, digits, le-leb low (digits_value 10 text) above, le-leb (digits_value 10 text) high below) refl

-- no such number
nowhere : (low high : ℕ) (text : List ℕ) → (all_ascii_digits text ≡ true → 0 < length text → low ≤ digits_value 10 text → digits_value 10 text ≤ high → ⊥)
    → number_in low high text ≡ None
nowhere low high text out = go (nat_lt 0 (length text)) (all_ascii_digits text) (nat_le low (digits_value 10 text)) (nat_le (digits_value 10 text) high) refl refl refl refl
  where
    go : (a b c d : Bool) → nat_lt 0 (length text) ≡ a → all_ascii_digits text ≡ b → nat_le low (digits_value 10 text) ≡ c → nat_le (digits_value 10 text) high ≡ d
        → number_in low high text ≡ None
    go true true true true w x y z = absurd (out x (ltb-true _ _ w) (leb-true _ _ y) (leb-true _ _ z))
    go true true true false w x y z = rw (w, x, y, z) refl
    go true true false d w x y z = rw (w, x, y) refl
    go true false c d w x y z = rw (w, x) refl
    go false b c d w x y z = rw w refl

-- a text with a sign is no number
pub signed : (low high : ℕ) (text : List ℕ) → get_or text 0 0 ≡ 43 → number_in low high text ≡ None
signed low high [] sign = refl
signed low high (c ∷ cs) sign = nowhere low high (c ∷ cs) (λ digits some above below.
    let first = tells_all_ascii_digits.parts c cs digits in absurd (omega (arith, first.0)))

-- the number that `parse` reads of a text without a sign, where it lies between the bounds
pub read_in : (E : Type 0) (low high : ℕ) (text : List ℕ) (value : ℕ) → get_or text 0 0 ≢ 43 → ParsesUnsigned {E = E} 32 10 text (Ok value) → low ≤ value → value ≤ high
    → number_in low high text ≡ Some value
read_in E low high text value plain parsed above below =
    let is : ((all_ascii_digits text ≡ true) × (0 < length text) × (digits_value 10 text < 2 ^ 32)) × (value ≡ digits_value 10 text) =
    parse_plain own {E = E} 32 text (Ok value) parsed plain in
    here low high text is.0.0 is.0.1 (omega arith) (omega arith) ∙ ap Some (sym is.1)

-- what `parse` refuses
pub read_none : (E : Type 0) (low high : ℕ) (text : List ℕ) (e : E) → high < 2 ^ 32 → get_or text 0 0 ≢ 43 → ParsesUnsigned {E = E} 32 10 text (Err e)
    → number_in low high text ≡ None
read_none E low high text e small plain parsed =
    let is = parse_plain own {E = E} 32 text (Err e) parsed plain in
    nowhere low high text (λ digits some above below. is (digits, some, omega arith))

-- a text whose first byte is no `+`
pub plain : (first : Option (Bor ℕ)) (text : List ℕ) (plus : Bor ℕ) → plus.now ≡ 43 → false ≡ option_eq (λ x y. nat_eq x.now y.now) first (Some plus)
    → option_copied first ≡ slice_get text 0 → get_or text 0 0 ≢ 43
plain first [] plus is other same = λ sign. absurd (omega arith)
plain (Some x) (c ∷ cs) plus is other same = λ sign.
    let first_is : x.now ≡ c = ap (λ (o : Option ℕ). unwrap_or o 0) same in
    let equal : nat_eq x.now plus.now ≡ true = rw (first_is, is, sign) refl in
    true≢false (sym (other ∙ equal))
plain None (c ∷ cs) plus is other same = λ sign. cc
