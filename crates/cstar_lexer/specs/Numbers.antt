-- Integer constants as tokens, and the faults at them.
use Rattle.std.specs.Prelude.{◌≡◌, ℕ, ◌^◌, ◌<◌, ◌≤◌, ◌||◌, ◌==◌, Bool, true, false, List, slice_index}
use Rattle.cstar_base.specs.declared.faults.Fault.{Fault}
use Rattle.cstar_base.specs.declared.faults.Fault.TheVariants as F
use Rattle.cstar_lexer.specs.declared.number.Number.{Number}
use Rattle.cstar_lexer.specs.Bytes.{goes_on}
use Rattle.cstar_lexer.specs.Constants.{IsLongestConstant, is_unsigned}

-- what may not stand directly behind a number: a letter, digit, `_` or `.`
unfoldable pub is_glued : ℕ → Bool
is_glued byte = goes_on byte || byte == 46

-- the number of a constant of this value
abbrev pub IsNumberOf : ℕ → Bool → Number → Type 0
IsNumberOf value suffixed number = (value < 2 ^ 32) × (number.value ≡ value) × (number.unsigned ≡ is_unsigned value suffixed)

-- the first n bytes are the longest constant here, this number, and nothing is glued to it
pub record IsNumber (bytes : List ℕ) (n : ℕ) (number : Number) : Type 0 where
  pub value : ℕ
  pub suffixed : Bool
  pub constant : IsLongestConstant bytes n value suffixed
  pub stands_for : IsNumberOf value suffixed number
  pub apart : is_glued (slice_index bytes n) ≡ false

-- the faults at a constant: it is above 4294967295, or a byte is glued to it
pub data NumberFault (bytes : List ℕ) : Fault → ℕ → Type 0 where
  wide : {n value : ℕ} {suffixed : Bool} → IsLongestConstant bytes n value suffixed → 2 ^ 32 ≤ value → NumberFault bytes F.Wide 0
  glued : {n value : ℕ} {suffixed : Bool} → IsLongestConstant bytes n value suffixed → is_glued (slice_index bytes n) ≡ true → NumberFault bytes F.BadByte n
