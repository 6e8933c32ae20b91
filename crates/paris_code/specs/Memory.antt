-- The bits of all processors, and the numbers that they hold.
use Rattle.std.specs.Prelude.{◌≡◌, ℕ, zero, suc, ℤ, Bool, ◌+◌, ◌*◌, ◌^◌, ◌<◌, ◌==◌, List, length, if◌then◌else◌}
use Rattle.vp_sets.specs.Positions.{position_count}
use Rattle.cstar_base.specs.declared.operators.Winner.{Winner}
use Rattle.cstar_base.specs.declared.operators.Winner.TheVariants as W
use Rattle.cstar_base.specs.Numbers.{number_of}
use Rattle.paris_code.specs.declared.operands.Field.{Field}
use Rattle.paris_code.specs.Shapes.{SetShape, bits_at, extents_at}

-- For each set, position and index a bit, 0 or 1: below the set's bits those of its fields, then the
-- context flag, then the test flag. And which sender of a colliding send without a combiner wins.
pub record BitMemory : Type 0 where
  pub bit : ℕ → ℕ → ℕ → ℕ
  pub winner : Winner

-- the number of so many bits from an offset on, the lowest first
unfoldable pub run_number : (ℕ → ℕ) → ℕ → ℕ → ℕ
run_number bits offset zero = 0
run_number bits offset (suc n) = run_number bits offset n + 2 ^ n * bits (offset + n)

-- the number in a field of a processor, unsigned; and the whole number, in two's complement where
-- it is read signed
unfoldable pub field_number : BitMemory → Field → ℕ → ℕ
field_number m f position = run_number (m.bit f.set position) f.offset f.len

unfoldable pub whole_number : BitMemory → Bool → Field → ℕ → ℤ
whole_number m signed f position = number_of f.len signed (field_number m f position)

-- one bit of a set as a run, and the flags of a set
abbrev pub bit_run : ℕ → ℕ → Field
bit_run set index = record { set = set; offset = index; len = 1 }

abbrev pub context_run : List SetShape → ℕ → Field
context_run shapes set = bit_run set (bits_at shapes set)

abbrev pub test_run : List SetShape → ℕ → Field
test_run shapes set = bit_run set (bits_at shapes set + 1)

-- a processor is active where its context flag is 1
unfoldable pub is_active : List SetShape → BitMemory → ℕ → ℕ → Bool
is_active shapes m set position = m.bit set position (bits_at shapes set) == 1

-- its test flag is 1
unfoldable pub is_tested : List SetShape → BitMemory → ℕ → ℕ → Bool
is_tested shapes m set position = m.bit set position (bits_at shapes set + 1) == 1

-- how many processors a set has
abbrev pub processors : List SetShape → ℕ → ℕ
processors shapes set = position_count (extents_at shapes set)

-- two memories hold the same at every bit of every processor of these sets
pub record SameBits (shapes : List SetShape) (m n : BitMemory) : Type 0 where
  pub bits : (set position index : ℕ) → set < length shapes → position < processors shapes set → index < bits_at shapes set + 2 → m.bit set position index ≡ n.bit set position index
  pub winner : m.winner ≡ n.winner

-- all fields and test flags 0, all context flags 1, and the greatest of colliding senders wins
unfoldable pub fresh_memory : List SetShape → BitMemory
fresh_memory shapes = record { bit = λ set position index. if index == bits_at shapes set then 1 else 0; winner = W.High }
