-- The bytes of a saved point, and where other bytes leave them.
use Rattle.std.specs.Prelude.{◌≡◌, ◌≤◌, ◌<◌, ◌+◌, ◌^◌, ℕ, Bool, true, false, List, [], ◌∷◌, ◌++◌, codes, length, take, slice_index, nat_lt, nat_le, ◌==◌, if◌then◌else◌}
use Rattle.std.specs.Int.{w32, w64, to_le_bytes}
use Rattle.std.specs.List.{flat_map}
use Rattle.cstar_base.specs.declared.operators.Winner.{Winner}
use Rattle.cstar_base.specs.declared.operators.Winner.TheVariants.{High, Low}
use Rattle.checkpoint.specs.declared.loading.Found.{Found}
use Rattle.checkpoint.specs.declared.point.Point.{Point}

abbrev pub winner_byte : Winner → ℕ
winner_byte High = 0
winner_byte Low = 1

abbrev pub flag_byte : Bool → ℕ
flag_byte false = 0
flag_byte true = 1

-- a number of 32 bits, and one of 64, the lowest byte first
unfoldable pub four_bytes : ℕ → List ℕ
four_bytes number = to_le_bytes w32 number

unfoldable pub eight_bytes : ℕ → List ℕ
eight_bytes number = to_le_bytes w64 number

-- a list of numbers behind its count
unfoldable pub counted : List ℕ → List ℕ
counted numbers = four_bytes (length numbers) ++ flat_map four_bytes numbers

-- bytes behind their length
unfoldable pub measured : List ℕ → List ℕ
measured bytes = eight_bytes (length bytes) ++ bytes

-- the bytes of a point: a mark, the winner, whether the input has ended, the place, and the four lists
unfoldable pub bytes_of : Point → List ℕ
bytes_of point =
    codes "PARISCP1" ++ (winner_byte point.winner ∷ flag_byte point.ended ∷ (four_bytes point.at
    ++ (counted point.regs ++ (counted point.returns ++ (measured point.listing ++ measured point.bits)))))

-- the counts and the lengths of a point's lists are numbers of 32 and of 64 bits
pub record IsCounted (point : Point) : Type 0 where
  pub regs : length point.regs < 2 ^ 32
  pub returns : length point.returns < 2 ^ 32
  pub listing : length point.listing < 2 ^ 64
  pub bits : length point.bits < 2 ^ 64

-- each of the numbers has 32 bits
abbrev pub AreWords : List ℕ → Type 0
AreWords numbers = (k : ℕ) → slice_index numbers k < 2 ^ 32

-- so has each number of a point
pub record HasWords (point : Point) : Type 0 where
  pub at : point.at < 2 ^ 32
  pub regs : AreWords point.regs
  pub returns : AreWords point.returns

-- all its numbers are those that the bytes of a point can hold
pub record IsHeld (point : Point) : Type 0 where
  pub counted : IsCounted point
  pub words : HasWords point

-- its bytes determine such a point
abbrev pub BytesDetermine : Point → Point → Type 0
BytesDetermine one other = IsHeld one → IsHeld other → bytes_of one ≡ bytes_of other → one ≡ other

-- these bytes are those of a point
abbrev pub IsOfPoint : List ℕ → Type 0
IsOfPoint bytes = (point : Point) × IsCounted point × (bytes_of point ≡ bytes)

-- the bytes of a point begin with these
abbrev pub BeginsPoint : List ℕ → Type 0
BeginsPoint bytes = (point : Point) × IsCounted point × ((more : List ℕ) × (bytes_of point ≡ bytes ++ more))

-- Bytes that are no point's leave those of all points at their byte of this number: the bytes before it
-- begin a point's, and with it none's. Where they end too early it is their count.
pub record LeavesAt (bytes : List ℕ) (at : ℕ) : Type 0 where
  pub none : IsOfPoint bytes → ⊥
  pub within : at ≤ length bytes
  pub before : BeginsPoint (take at bytes)
  pub here : at < length bytes → BeginsPoint (take (at + 1) bytes) → ⊥

-- the point that is found among bytes
abbrev pub point_in : Found → Point
point_in found = record {
  winner = found.winner;
  ended = found.ended;
  at = found.at;
  regs = found.regs;
  returns = found.returns;
  listing = found.listing;
  bits = found.bits.now;
}

-- what of a point's bytes stands before its numbers, and what behind
unfoldable pub head_of : Winner → Bool → List ℕ
head_of winner ended = codes "PARISCP1" ++ (winner_byte winner ∷ flag_byte ended ∷ [])

unfoldable pub body_of : Point → List ℕ
body_of point =
    four_bytes point.at ++ (counted point.regs ++ (counted point.returns ++ (measured point.listing ++ measured point.bits)))

-- a point can have this byte at this place of its head: that of the mark, or 0 or 1 behind it
abbrev pub may_stand : ℕ → ℕ → Bool
may_stand place byte = if nat_lt place 8 then byte == slice_index (codes "PARISCP1") place else nat_le byte 1

-- each of the bytes before a place can stand in a point's head
abbrev pub Stand : List ℕ → ℕ → Type 0
Stand bytes place = (k : ℕ) → k < place → may_stand k (slice_index bytes k) ≡ true
