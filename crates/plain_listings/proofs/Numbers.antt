-- A number and its decimal digits.
use Rattle.std.proofs.Common.{◌≡◌, ℕ, ◌<◌, ◌+◌, ◌%◌, Bool, true, false, List, [], ◌∷◌, refl, arith}
use Rattle.std.specs.Prelude.{decimal, nat_lt}
use Rattle.std.specs.Str.Parse.{digits_value}
use Rattle.std.proofs.lemmas.Fmt.{decimal_is_IsNumeral, decimal_by_steps}
use Rattle.std.proofs.lemmas.Bool.Decides.{nat_tests}
use Rattle.paris_code.specs.Plain.{is_digit}
use Rattle.plain_listings.specs.Contents.{IsWord}
use Rattle.plain_listings.proofs.Cuts.{only, only_append, only_weaker, both, lacks}

-- the number of some digits
abbrev pub value : List ℕ → ℕ
value digits = digits_value 10 digits

pub value_back : (n : ℕ) → IsWord n → value (decimal n) ≡ n
value_back n h = (decimal_is_IsNumeral n (omega arith)).1

digit : (n : ℕ) → n < 10 → is_digit (48 + n) ≡ true
digit n h = grind (arith, nat_tests)

pub digits : (n : ℕ) → IsWord n → only is_digit (decimal n) ≡ true
digits n h = decimal_by_steps (λ m ds. only is_digit ds ≡ true) (λ m l. both (is_digit (48 + m)) true (digit m l) refl)
    (λ m ds l g. only_append is_digit ds ((48 + m % 10) ∷ []) g (both (is_digit (48 + m % 10)) true (digit (m % 10) (omega arith)) refl)) n (omega arith)

-- a byte that is no digit is none of them
pub other : (c : ℕ) → is_digit c ≡ false → (b : ℕ) → is_digit b ≡ true → lacks c b ≡ true
other c e b h = grind (arith, nat_tests)

pub without : (c n : ℕ) → is_digit c ≡ false → IsWord n → only (lacks c) (decimal n) ≡ true
without c n e h = only_weaker is_digit (lacks c) (other c e) (decimal n) (digits n h)

-- a byte that a word of a line can have
abbrev pub is_solid : ℕ → Bool
is_solid b = nat_lt 32 b

pub solid_digit : (b : ℕ) → is_digit b ≡ true → is_solid b ≡ true
solid_digit b h = grind (arith, nat_tests)

pub number_solid : (n : ℕ) → IsWord n → only is_solid (decimal n) ≡ true
number_solid n h = only_weaker is_digit is_solid solid_digit (decimal n) (digits n h)
