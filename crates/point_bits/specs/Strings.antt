-- The bits of the sets as bytes.
use Rattle.std.specs.Prelude.{◌≡◌, ◌≢◌, ◌⊎◌, ◌<◌, ◌≤◌, ℕ, ◌+◌, ◌-◌, ◌*◌, ◌/◌, ◌%◌, ◌==◌, List, length, map, nat_lt, slice_index, sum, if◌then◌else◌}
use Rattle.std.specs.Int.{bit_at, from_bool}
use Rattle.std.specs.List.{concat, range_with_len}
use Rattle.cstar_base.specs.declared.operators.Winner.{Winner}
use Rattle.bit_planes.specs.declared.block.Block.{Block}
use Rattle.bit_planes.specs.declared.plane.Plane.{Plane}
use Rattle.bit_planes.specs.Bits.{bit}
use Rattle.bit_planes.specs.Planes.{plane_at}
use Rattle.block_store.specs.Planes.{HasPlanes, block_bit}
use Rattle.vp_sets.specs.Positions.{position_count}
use Rattle.paris_code.specs.Memory.{BitMemory, run_number}
use Rattle.paris_code.specs.Shapes.{SetShape, bits_at, extents_at}
use Rattle.paris_code.specs.declared.operands.Field.{Field}
use Rattle.point_bits.specs.declared.strings.SetString.{SetString}

-- how many bits a position of a set has: those of its fields, its context flag and its test flag
abbrev pub width_of : List SetShape → ℕ → ℕ
width_of shapes set = bits_at shapes set + 2

-- how many bits all positions of a set have
unfoldable pub bit_count : List SetShape → ℕ → ℕ
bit_count shapes set = position_count (extents_at shapes set) * width_of shapes set

-- the bits of a set, position behind position, and 0 behind the last
unfoldable pub string_bit : List SetShape → BitMemory → ℕ → ℕ → ℕ
string_bit shapes m set n =
    if nat_lt n (bit_count shapes set) then from_bool (m.bit set (n / width_of shapes set) (n % width_of shapes set) == 1) else 0

-- eight of them to a byte, the first the lowest
unfoldable pub string_byte : List SetShape → BitMemory → ℕ → ℕ → ℕ
string_byte shapes m set k = run_number (string_bit shapes m set) (8 * k) 8

-- how many bytes a set takes
unfoldable pub set_size : List SetShape → ℕ → ℕ
set_size shapes set = (bit_count shapes set + 7) / 8

-- the bytes of a set, whose last one is filled with 0
unfoldable pub set_bytes : List SetShape → BitMemory → ℕ → List ℕ
set_bytes shapes m set = map (string_byte shapes m set) (range_with_len 0 (set_size shapes set))

-- the bytes of all sets
unfoldable pub bits_bytes : List SetShape → BitMemory → List ℕ
bits_bytes shapes m = concat (map (set_bytes shapes m) (range_with_len 0 (length shapes)))

-- how many bytes the sets before one take, and all sets
unfoldable pub start_of : List SetShape → ℕ → ℕ
start_of shapes set = sum (map (set_size shapes) (range_with_len 0 set))

abbrev pub total_size : List SetShape → ℕ
total_size shapes = start_of shapes (length shapes)

-- bit n of bytes is bit n % 8 of byte n / 8
unfoldable pub byte_bit : List ℕ → ℕ → ℕ
byte_bit bytes n = bit_at (slice_index bytes (n / 8)) (n % 8)

-- bytes are those of bits of all sets: they are as many as the sets ask, and behind the last bit of each set there are zeros
pub record AreBits (shapes : List SetShape) (bytes : List ℕ) : Type 0 where
  pub long : length bytes ≡ total_size shapes
  pub filled : (set n : ℕ) → set < length shapes → bit_count shapes set ≤ n → n < 8 * set_size shapes set → byte_bit bytes (8 * start_of shapes set + n) ≡ 0

-- the memory whose bits these are
unfoldable pub restored : List SetShape → List ℕ → Winner → BitMemory
restored shapes bytes winner = record {
  bit = λ set position index. byte_bit bytes (8 * start_of shapes set + (position * width_of shapes set + index));
  winner = winner;
}

-- a set of few positions, each of few bits
pub record IsString (s : SetString) : Type 0 where
  pub few : s.positions ≤ 1048576
  pub some : 1 ≤ s.positions
  pub narrow : s.width ≤ 1073741826
  pub wide : 2 ≤ s.width

-- a set, how many positions it has, and how many bits each
pub record IsStringOf (shapes : List SetShape) (s : SetString) : Type 0 where
  pub set : s.set < length shapes
  pub positions : s.positions ≡ position_count (extents_at shapes s.set)
  pub width : s.width ≡ width_of shapes s.set

-- bit i of position p, in a string of so many bits a position
abbrev pub string_at : ℕ → List ℕ → ℕ → ℕ → ℕ
string_at width bytes p i = byte_bit bytes (p * width + i)

-- a run of at most 32 bits of a position
abbrev pub HasRun : SetString → Field → Type 0
HasRun s run = (1 ≤ run.len) × (run.len ≤ 32) × (run.offset + run.len ≤ s.width)

-- at the positions of a block a run has become the numbers of their lanes, and each other bit is as it was
pub record RunPut (positions width : ℕ) (run : Field) (block : ℕ) (words old new : List ℕ) : Type 0 where
  pub long : length new ≡ length old
  pub inside : (p i : ℕ) → p / 512 ≡ block → p < positions → run.offset ≤ i → i < run.offset + run.len → string_at width new p i ≡ bit_at (slice_index words (p % 512)) (i - run.offset)
  pub outside : (p i : ℕ) → i < width → (p / 512 ≢ block) ⊎ ((positions ≤ p) ⊎ ((i < run.offset) ⊎ (run.offset + run.len ≤ i))) → string_at width new p i ≡ string_at width old p i

-- bytes are the bits of a block's positions, as its planes hold them
pub record IsPart (s : SetString) (planes : List Plane) (bytes : List ℕ) : Type 0 where
  pub long : length bytes ≡ (s.positions * s.width + 7) / 8
  pub small : (k : ℕ) → slice_index bytes k < 256
  pub bits : (p i : ℕ) → p < s.positions → i < s.width → string_at s.width bytes p i ≡ bit (plane_at planes i) p
  pub behind : (n : ℕ) → s.positions * s.width ≤ n → byte_bit bytes n ≡ 0

-- planes are those of a block whose positions have these bits, with zeros behind the last one
pub record IsBlockOf (s : SetString) (bytes : List ℕ) (planes : List Plane) : Type 0 where
  pub long : length planes ≡ s.width
  pub bits : (p i : ℕ) → p < s.positions → i < s.width → bit (plane_at planes i) p ≡ string_at s.width bytes p i
  pub quiet : (p i : ℕ) → s.positions ≤ p → p < 512 → i < s.width → bit (plane_at planes i) p ≡ 0

-- blocks are those of a set whose positions have these bits, with zeros behind the last one
pub record IsSetOf (s : SetString) (bytes : List ℕ) (blocks : List Block) : Type 0 where
  pub count : length blocks ≡ (s.positions + 511) / 512
  pub planes : HasPlanes s.width blocks
  pub bits : (p i : ℕ) → p < s.positions → i < s.width → block_bit blocks p i ≡ string_at s.width bytes p i
  pub padding : (p i : ℕ) → s.positions ≤ p → p < 512 * length blocks → i < s.width → block_bit blocks p i ≡ 0
