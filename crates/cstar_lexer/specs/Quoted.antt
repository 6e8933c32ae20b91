-- Escapes, character constants and texts, and the faults in them.
use Rattle.std.specs.Prelude.{◌≡◌, ℕ, ◌+◌, ◌<◌, ◌≤◌, ◌⊎◌, ◌==◌, nat_lt, false, Option, Some, None, List, [], ◌∷◌, take, drop, min, slice_index, if◌then◌else◌}
use Rattle.std.specs.List.{prefix_len}
use Rattle.cstar_base.specs.declared.faults.Fault.{Fault}
use Rattle.cstar_base.specs.declared.faults.Fault.TheVariants as F
use Rattle.cstar_lexer.specs.declared.number.Number.{Number}
use Rattle.cstar_lexer.specs.Bytes.{LineEnds}
use Rattle.cstar_lexer.specs.Constants.{is_digit, value_of}

-- what a letter or a mark behind a `\` stands for: n t v b r f a \ ' " ?
unfoldable pub escape_letter : ℕ → Option ℕ
escape_letter byte =
    if byte == 110 then Some 10 else (
    if byte == 116 then Some 9 else (
    if byte == 118 then Some 11 else (
    if byte == 98 then Some 8 else (
    if byte == 114 then Some 13 else (
    if byte == 102 then Some 12 else (
    if byte == 97 then Some 7 else (
    if byte == 92 then Some 92 else (
    if byte == 39 then Some 39 else (
    if byte == 34 then Some 34 else (
    if byte == 63 then Some 63 else None))))))))))

-- the first n bytes are an escape of this value: a letter or mark, one to three octal digits, or
-- `x` and hexadecimal digits, as many as stand there
pub data IsEscape (bytes : List ℕ) : ℕ → ℕ → Type 0 where
  letter : {n value : ℕ} → slice_index bytes 0 ≡ 92 → escape_letter (slice_index bytes 1) ≡ Some value → n ≡ 2 → IsEscape bytes n value
  octal : {n digits value : ℕ} → slice_index bytes 0 ≡ 92 → digits ≡ min 3 (prefix_len (is_digit 8) (drop 1 bytes)) → 0 < digits → value ≡ value_of 8 (take digits (drop 1 bytes)) → n ≡ digits + 1 → IsEscape bytes n value
  hexadecimal : {n digits value : ℕ} → slice_index bytes 0 ≡ 92 → slice_index bytes 1 ≡ 120 → digits ≡ prefix_len (is_digit 16) (drop 2 bytes) → 0 < digits → value ≡ value_of 16 (take digits (drop 2 bytes)) → n ≡ digits + 2 → IsEscape bytes n value

-- the line ends before the escape that a `\` begins
abbrev pub IsCut : List ℕ → Type 0
IsCut bytes = (slice_index bytes 0 ≡ 92) × (LineEnds bytes 1 ⊎ ((slice_index bytes 1 ≡ 120) × LineEnds bytes 2))

-- the byte behind a `\` begins no escape
pub record IsBad (bytes : List ℕ) : Type 0 where
  pub begins : slice_index bytes 0 ≡ 92
  pub goes_on : IsCut bytes → ⊥
  pub none : (n value : ℕ) → IsEscape bytes n value → ⊥

-- a byte that stands for itself between two of these quotes
pub record IsPlain (bytes : List ℕ) (at quote : ℕ) : Type 0 where
  pub on_line : LineEnds bytes at → ⊥
  pub no_quote : slice_index bytes at ≡ quote → ⊥
  pub no_escape : slice_index bytes at ≡ 92 → ⊥

-- n bytes behind the quote of a character constant stand for one byte of this value
pub data IsOne (bytes : List ℕ) : ℕ → ℕ → Type 0 where
  plain : {n value : ℕ} → IsPlain bytes 1 39 → n ≡ 1 → value ≡ slice_index bytes 1 → IsOne bytes n value
  escape : {n value : ℕ} → IsEscape (drop 1 bytes) n value → IsOne bytes n value

-- a byte from 128 on stands for its value minus 256
abbrev pub character : ℕ → ℕ
character byte = if nat_lt byte 128 then byte else byte + 4294967040

-- the first n bytes are a character constant of this number
pub record IsCharacter (bytes : List ℕ) (n : ℕ) (number : Number) : Type 0 where
  pub inner : ℕ
  pub byte : ℕ
  pub begins : slice_index bytes 0 ≡ 39
  pub one : IsOne bytes inner byte
  pub small : byte < 256
  pub closes : slice_index bytes (inner + 1) ≡ 39
  pub long : n ≡ inner + 2
  pub value : number.value ≡ character byte
  pub signed : number.unsigned ≡ false

-- the faults in a character constant
pub data CharacterFault (bytes : List ℕ) : Fault → ℕ → Type 0 where
  ended : slice_index bytes 0 ≡ 39 → LineEnds bytes 1 → CharacterFault bytes F.Open 0
  cut : slice_index bytes 0 ≡ 39 → IsCut (drop 1 bytes) → CharacterFault bytes F.Open 0
  unclosed : {n value : ℕ} → slice_index bytes 0 ≡ 39 → IsOne bytes n value → LineEnds bytes (n + 1) → CharacterFault bytes F.Open 0
  empty : slice_index bytes 0 ≡ 39 → slice_index bytes 1 ≡ 39 → CharacterFault bytes F.BadByte 1
  bad : slice_index bytes 0 ≡ 39 → IsBad (drop 1 bytes) → CharacterFault bytes F.BadByte 2
  wide : {n value : ℕ} → slice_index bytes 0 ≡ 39 → IsEscape (drop 1 bytes) n value → 256 ≤ value → CharacterFault bytes F.Wide 1
  other : {n value : ℕ} → slice_index bytes 0 ≡ 39 → IsOne bytes n value → (LineEnds bytes (n + 1) → ⊥) → (slice_index bytes (n + 1) ≡ 39 → ⊥) → CharacterFault bytes F.BadByte (n + 1)

-- a text from one of its bytes on: where it ends, behind its closing quote, and its bytes
pub data IsInside (bytes : List ℕ) : ℕ → ℕ → List ℕ → Type 0 where
  closes : {at end : ℕ} {word : List ℕ} → slice_index bytes at ≡ 34 → end ≡ at + 1 → word ≡ [] → IsInside bytes at end word
  plain : {at end : ℕ} {rest word : List ℕ} → IsPlain bytes at 34 → IsInside bytes (at + 1) end rest → word ≡ slice_index bytes at ∷ rest → IsInside bytes at end word
  escape : {at end n value : ℕ} {rest word : List ℕ} → IsEscape (drop at bytes) n value → value < 256 → IsInside bytes (at + n) end rest → word ≡ value ∷ rest → IsInside bytes at end word

-- the first n bytes are a text of these bytes
abbrev pub IsQuoted : List ℕ → ℕ → List ℕ → Type 0
IsQuoted bytes n word = (slice_index bytes 0 ≡ 34) × IsInside bytes 1 n word

-- the faults in a text from one of its bytes on
pub data FaultInside (bytes : List ℕ) : ℕ → Fault → ℕ → Type 0 where
  ended : {at : ℕ} → LineEnds bytes at → FaultInside bytes at F.Open 0
  cut : {at : ℕ} → IsCut (drop at bytes) → FaultInside bytes at F.Open 0
  bad : {at offset : ℕ} → IsBad (drop at bytes) → offset ≡ at + 1 → FaultInside bytes at F.BadByte offset
  wide : {at offset n value : ℕ} → IsEscape (drop at bytes) n value → 256 ≤ value → offset ≡ at → FaultInside bytes at F.Wide offset
  behind_plain : {at offset : ℕ} {fault : Fault} → IsPlain bytes at 34 → FaultInside bytes (at + 1) fault offset → FaultInside bytes at fault offset
  behind_escape : {at offset n value : ℕ} {fault : Fault} → IsEscape (drop at bytes) n value → FaultInside bytes (at + n) fault offset → FaultInside bytes at fault offset
  behind_bad : {at offset : ℕ} {fault : Fault} → IsBad (drop at bytes) → FaultInside bytes (at + 2) fault offset → FaultInside bytes at fault offset

-- the faults in a text
abbrev pub TextFault : List ℕ → Fault → ℕ → Type 0
TextFault bytes fault offset = (slice_index bytes 0 ≡ 34) × FaultInside bytes 1 fault offset
