-- Integer constants: how they are written, and what they stand for.
use Rattle.std.specs.Prelude.{◌≡◌, ℕ, ◌+◌, ◌-◌, ◌*◌, ◌<◌, ◌≤◌, ◌&&◌, ◌||◌, ◌==◌, nat_le, nat_lt, ◌^◌, min, Bool, true, false, List, take, drop, slice_index, if◌then◌else◌}
use Rattle.std.specs.List.{prefix_len, fold}
use Rattle.cstar_lexer.specs.Bytes.{in_range}

-- the value of a digit
unfoldable pub digit_of : ℕ → ℕ
digit_of byte = if nat_le byte 57 then byte - 48 else (if nat_le byte 70 then byte - 55 else byte - 87)

-- the digits of a radix of at most 16
unfoldable pub is_digit : ℕ → ℕ → Bool
is_digit radix byte = (in_range 48 57 byte || in_range 65 70 byte || in_range 97 102 byte) && nat_lt (digit_of byte) radix

abbrev pub with_digit : ℕ → ℕ → ℕ → ℕ
with_digit radix value byte = value * radix + digit_of byte

-- what digits stand for
unfoldable pub value_of : ℕ → List ℕ → ℕ
value_of radix digits = fold (with_digit radix) 0 digits

-- `x` or `X`, `u` or `U`, `l` or `L`
unfoldable pub is_x : ℕ → Bool
is_x byte = byte == 120 || byte == 88

unfoldable pub is_u : ℕ → Bool
is_u byte = byte == 117 || byte == 85

unfoldable pub is_l : ℕ → Bool
is_l byte = byte == 108 || byte == 76

-- the first n bytes are a constant without its suffix, and this is its value
pub data IsNumeral (bytes : List ℕ) : ℕ → ℕ → Type 0 where
  decimal : {n value : ℕ} → 0 < n → n ≤ prefix_len (is_digit 10) bytes → (slice_index bytes 0 ≡ 48 → ⊥) → value ≡ value_of 10 (take n bytes) → IsNumeral bytes n value
  octal : {n value : ℕ} → 0 < n → n ≤ prefix_len (is_digit 8) bytes → slice_index bytes 0 ≡ 48 → value ≡ value_of 8 (take n bytes) → IsNumeral bytes n value
  hexadecimal : {n digits value : ℕ} → slice_index bytes 0 ≡ 48 → is_x (slice_index bytes 1) ≡ true → 0 < digits → digits ≤ prefix_len (is_digit 16) (drop 2 bytes) → value ≡ value_of 16 (take digits (drop 2 bytes)) → n ≡ digits + 2 → IsNumeral bytes n value

-- the first n bytes are a suffix: at most one `u` and at most one `l`; whether there is a `u`
pub data IsSuffix (bytes : List ℕ) : ℕ → Bool → Type 0 where
  none : IsSuffix bytes 0 false
  u : is_u (slice_index bytes 0) ≡ true → IsSuffix bytes 1 true
  l : is_l (slice_index bytes 0) ≡ true → IsSuffix bytes 1 false
  ul : is_u (slice_index bytes 0) ≡ true → is_l (slice_index bytes 1) ≡ true → IsSuffix bytes 2 true
  lu : is_l (slice_index bytes 0) ≡ true → is_u (slice_index bytes 1) ≡ true → IsSuffix bytes 2 true

-- the first n bytes are an integer constant with its suffix
pub record IsConstant (bytes : List ℕ) (n value : ℕ) (suffixed : Bool) : Type 0 where
  pub digits : ℕ
  pub letters : ℕ
  pub numeral : IsNumeral bytes digits value
  pub suffix : IsSuffix (drop digits bytes) letters suffixed
  pub whole : n ≡ digits + letters

-- the longest constant at the beginning
pub record IsLongestConstant (bytes : List ℕ) (n value : ℕ) (suffixed : Bool) : Type 0 where
  pub constant : IsConstant bytes n value suffixed
  pub longest : (m v : ℕ) (s : Bool) → IsConstant bytes m v s → m ≤ n

-- a constant is unsigned by its suffix, or above 2147483647
abbrev pub is_unsigned : ℕ → Bool → Bool
is_unsigned value suffixed = suffixed || nat_lt 2147483647 value

-- an `x` and a hexadecimal digit stand behind a 0
unfoldable pub begins_hexadecimal : List ℕ → Bool
begins_hexadecimal bytes = slice_index bytes 0 == 48 && is_x (slice_index bytes 1) && is_digit 16 (slice_index bytes 2)

-- no longer suffix begins here, and no other one of this length
pub record IsLongestSuffix (bytes : List ℕ) (n : ℕ) (unsigned : Bool) : Type 0 where
  pub suffix : IsSuffix bytes n unsigned
  pub longest : (m : ℕ) (s : Bool) → IsSuffix bytes m s → m ≤ n

-- what a reader of constants keeps of a value
abbrev pub IsKept : ℕ → ℕ → Type 0
IsKept value kept = kept ≡ min (2 ^ 32) value

-- the longest constant without its suffix at the beginning, and what is kept of its value
pub record IsLongestNumeral (bytes : List ℕ) (n kept : ℕ) : Type 0 where
  pub value : ℕ
  pub cut : IsKept value kept
  pub numeral : IsNumeral bytes n value
  pub longest : (m v : ℕ) → IsNumeral bytes m v → m ≤ n

-- the longest constant at the beginning, and what is kept of its value
pub record IsKeptConstant (bytes : List ℕ) (n kept : ℕ) (suffixed : Bool) : Type 0 where
  pub value : ℕ
  pub cut : IsKept value kept
  pub constant : IsLongestConstant bytes n value suffixed
