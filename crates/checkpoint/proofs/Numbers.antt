-- Numbers of 32 and of 64 bits as bytes.
use Rattle.std.proofs.Common.{◌≡◌, ◌+◌, ◌*◌, ◌^◌, ◌<◌, ℕ, List, length, get_or, refl, sym, ◌∙◌, ap, arith}
use Rattle.std.proofs.lemmas.Nat.{from_le_bytes-to_le_bytes_4, from_le_bytes-to_le_bytes_8, le_bytes_4, le_bytes_8}
use Rattle.std.specs.Int.{w32, w64, from_le_bytes}
use Rattle.checkpoint.specs.Bytes.{eight_bytes, four_bytes}

-- a list of bytes
abbrev pub AreBytes : List ℕ → Type 0
AreBytes xs = (i : ℕ) → get_or xs i 0 < 256

pub four_length : (n : ℕ) → length (four_bytes n) ≡ 4
unfolding four_bytes
four_length n = refl

pub eight_length : (n : ℕ) → length (eight_bytes n) ≡ 8
unfolding eight_bytes
eight_length n = refl

-- the bytes tell the number
pub four_same : (m n : ℕ) → m < 2 ^ 32 → n < 2 ^ 32 → four_bytes m ≡ four_bytes n → m ≡ n
unfolding four_bytes
four_same m n small less e =
    sym (from_le_bytes-to_le_bytes_4 m small) ∙ (ap (from_le_bytes w32) e ∙ from_le_bytes-to_le_bytes_4 n less)

pub eight_same : (m n : ℕ) → m < 2 ^ 64 → n < 2 ^ 64 → eight_bytes m ≡ eight_bytes n → m ≡ n
unfolding eight_bytes
eight_same m n small less e =
    sym (from_le_bytes-to_le_bytes_8 m small) ∙ (ap (from_le_bytes w64) e ∙ from_le_bytes-to_le_bytes_8 n less)

four_small : (a b c d : ℕ) → a < 256 → b < 256 → c < 256 → d < 256 → a + b * 256 ^ 1 + c * 256 ^ 2 + d * 256 ^ 3 < 2 ^ 32
four_small a b c d p q r s = omega arith

eight_small : (a b c d e f g h : ℕ) → a < 256 → b < 256 → c < 256 → d < 256 → e < 256 → f < 256 → g < 256 → h < 256
    → a + b * 256 ^ 1 + c * 256 ^ 2 + d * 256 ^ 3 + e * 256 ^ 4 + f * 256 ^ 5 + g * 256 ^ 6 + h * 256 ^ 7 < 2 ^ 64
eight_small a b c d e f g h p q r s t u v w = omega arith

-- a number that is written with given bytes
pub record Writes (bytes_of : ℕ → List ℕ) (most : ℕ) (bytes : List ℕ) : Type 0 where
  pub number : ℕ
  pub small : number < most
  pub is : bytes_of number ≡ bytes

pub four_made : (xs : List ℕ) → length xs ≡ 4 → AreBytes xs → Writes four_bytes (2 ^ 32) xs
unfolding four_bytes
four_made xs four bytes = record {
  number = from_le_bytes w32 xs;
  small = four_small _ _ _ _ (bytes 0) (bytes 1) (bytes 2) (bytes 3);
  is = le_bytes_4 xs _ four bytes refl;
}

pub eight_made : (xs : List ℕ) → length xs ≡ 8 → AreBytes xs → Writes eight_bytes (2 ^ 64) xs
unfolding eight_bytes
eight_made xs eight bytes = record {
  number = from_le_bytes w64 xs;
  small = eight_small _ _ _ _ _ _ _ _ (bytes 0) (bytes 1) (bytes 2) (bytes 3) (bytes 4) (bytes 5) (bytes 6) (bytes 7);
  is = le_bytes_8 xs _ eight bytes refl;
}
