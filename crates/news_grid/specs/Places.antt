-- The instructions that fetch, and what the blocks of a set take in a get.
use Rattle.std.specs.Prelude.{ℕ, ◌+◌, ◌*◌, ◌%◌, ◌^◌, ◌≤◌, Bool, true, false, List, length}
use Rattle.bit_planes.specs.declared.plane.Plane.{Plane}
use Rattle.bit_planes.specs.Planes.{plane_at, number}
use Rattle.paris_code.specs.declared.instr.Instr.{Instr}
use Rattle.paris_code.specs.declared.instr.Instr.TheVariants as I
use Rattle.block_store.specs.Phases.{LanesWritten, TakesLanes}
use Rattle.block_store.specs.Stored.{word_or_zero}
use Rattle.news_grid.specs.declared.spread.Fetching.{Fetching}

-- the fields lie in the bits of a position, and a word is held for each place that there is
pub record FetchingFits (taking : Fetching) : Type 0 where
  pub len : (1 ≤ taking.dest.len) × (taking.dest.len ≤ 32)
  pub dest : taking.dest.offset + taking.dest.len ≤ taking.plan.now.bits
  pub address_len : (1 ≤ taking.address.len) × (taking.address.len ≤ 32)
  pub address : taking.address.offset + taking.address.len ≤ taking.plan.now.bits
  pub held : taking.count ≤ 512 * length taking.cells.now

-- the position from which a lane takes its word, by the planes of its block
abbrev pub place : Fetching → List Plane → ℕ → ℕ
place taking planes i = number planes taking.address.offset taking.address.len i

-- the active lanes of block k have taken the words that are held for their places
pub record Taken (taking : Fetching) (k : ℕ) (old new : List Plane) : Type 0 where
  pub mask : List ℕ
  pub lanes : TakesLanes taking.plan.now.geometry k false (plane_at old taking.plan.now.bits) mask
  pub written : LanesWritten taking.dest.offset taking.dest.len mask (λ i. word_or_zero taking.cells.now taking.count (place taking old i) % 2 ^ taking.dest.len) old new

-- the gets, the NEWS shifts, and the reads and writes of one processor
abbrev pub is_fetching : Instr → Bool
is_fetching (I.GetFromNews d a axis k) = true
is_fetching (I.GetFromNewsAlways d a axis k) = true
is_fetching (I.Get d address a) = true
is_fetching (I.ReadFromProcessor signed r processor a) = true
is_fetching (I.WriteToProcessor d processor k) = true
is_fetching _ = false
