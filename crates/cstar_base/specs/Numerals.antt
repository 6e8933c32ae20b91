-- The texts of words of 32 bits.
use Rattle.std.specs.Prelude.{ℕ, zero, suc, ◌+◌, ◌/◌, ◌%◌, List, [], ◌∷◌, ◌++◌, nat_lt, if◌then◌else◌, true, decimal}
use Rattle.std.specs.Fmt.{signed_decimal}
use Rattle.cstar_base.specs.Numbers.{number_of}
use Rattle.cstar_base.specs.declared.formats.NumberFormat.{NumberFormat}
use Rattle.cstar_base.specs.declared.formats.NumberFormat.TheVariants as F

-- the digit of a number below 16: `0` to `9`, then `a` to `f`
abbrev pub digit_of : ℕ → ℕ
digit_of n = if nat_lt n 10 then 48 + n else 87 + n

-- a number in a base, at no more than so many places
unfoldable pub numeral_in : ℕ → ℕ → ℕ → List ℕ
numeral_in base zero n = []
numeral_in base (suc places) n =
    if nat_lt n base then digit_of n ∷ [] else numeral_in base places (n / base) ++ digit_of (n % base) ∷ []

-- a word in a format; 11 places are enough for every number of 32 bits
unfoldable pub word_text : NumberFormat → ℕ → List ℕ
word_text F.Signed w = signed_decimal (number_of 32 true w)
word_text F.Unsigned w = decimal w
word_text F.Hexadecimal w = numeral_in 16 11 w
word_text F.Octal w = numeral_in 8 11 w
word_text F.Character w = w % 256 ∷ []
