-- A step along an axis, by the planes that the room holds.
use Rattle.std.specs.Prelude.{◌≡◌, ℕ, ℤ, ◌+◌, ◌-◌, ◌*◌, ◌/◌, ◌%◌, ◌<◌, ◌≤◌, ◌==◌, List, length, nat_lt, if◌then◌else◌}
use Rattle.vp_sets.specs.Positions.{position_count, shifted}
use Rattle.bit_planes.specs.declared.plane.Plane.{Plane}
use Rattle.bit_planes.specs.Bits.{bit}
use Rattle.bit_planes.specs.Planes.{plane_at, number}
use Rattle.news_grid.specs.declared.step.Step.{Step}
use Rattle.news_grid.specs.declared.window.Turn.{Turn}
use Rattle.news_grid.specs.declared.window.Window.{Window}

-- the position to which a step leads: so many ahead, or a turn less where that is past the end of the position's turn
abbrev pub led : Step → ℕ → ℕ
led step n = if nat_lt (n % step.turn + step.ahead) step.turn then n + step.ahead else n + step.ahead - step.turn

-- how many blocks are in a turn of so many positions, where the turns begin at blocks; else 0
abbrev pub turn_blocks : ℕ → ℕ
turn_blocks turn = if turn % 512 == 0 then turn / 512 else 0

-- the step that leads by so many along an axis
pub record Leads (extents : List ℕ) (axis : ℕ) (by : ℤ) (step : Step) : Type 0 where
  pub short : step.ahead < step.turn
  pub within : step.turn ≤ position_count extents
  pub fills : position_count extents % step.turn ≡ 0
  pub blocks : step.blocks ≡ turn_blocks step.turn
  pub there : (n : ℕ) → n < position_count extents → shifted extents n axis by ≡ led step n
  pub inside : (n : ℕ) → n < position_count extents → shifted extents n axis by < position_count extents

-- the number of so many bits that the held planes have for position p: those of a block lie side by side, behind those of the block before it
abbrev pub number_held : List Plane → ℕ → ℕ → ℕ
number_held held len p = number held (p / 512 * len) len (p % 512)

-- lane n of two planes side by side
abbrev pub beside : List ℕ → List ℕ → ℕ → ℕ
beside low high n = if nat_lt n 512 then bit low n else bit high (n - 512)

-- lane i of a window on plane j of a field of len bits that is held
abbrev pub seen_through : Window → List Plane → ℕ → ℕ → ℕ → ℕ
seen_through window held len j i = beside (plane_at held (window.first * len + j)) (plane_at held (window.next * len + j)) (window.from + i)

-- a window that begins at a lane of a set of so many blocks
pub record Views (window : Window) (lane blocks : ℕ) : Type 0 where
  pub first : window.first ≡ lane / 512 % blocks
  pub next : window.next ≡ (lane / 512 + 1) % blocks
  pub from : window.from ≡ lane % 512

-- the position that lane i of a window shows
abbrev pub position_seen : Window → ℕ → ℕ
position_seen window i = if nat_lt (window.from + i) 512 then 512 * window.first + (window.from + i) else 512 * window.next + (window.from + i - 512)

-- the planes of a field of len bits are held of both blocks of a window
abbrev pub HasHeld : Window → ℕ → List Plane → Type 0
HasHeld window len held = (window.first * len + len ≤ length held) × (window.next * len + len ≤ length held) × (window.from < 512)

-- the number of so many bits in lane i of a window
abbrev pub number_seen : List Plane → Window → ℕ → ℕ → ℕ
number_seen held window len i =
    if nat_lt (window.from + i) 512 then number held (window.first * len) len (window.from + i) else number held (window.next * len) len (window.from + i - 512)

-- the number of so many bits that lane i takes in a turn
abbrev pub number_taken : List Plane → Turn → ℕ → ℕ → ℕ
number_taken held turn len i = if bit turn.crossing i == 1 then number_seen held turn.round len i else number_seen held turn.staying len i
