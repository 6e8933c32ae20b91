-- Runs of bits of all positions of a block at once.
use Rattle.std.specs.Prelude.{◌≡◌, ℕ, ◌+◌, ◌/◌, ◌%◌, ◌^◌, ◌<◌, ◌==◌, List, slice_index}
use Rattle.std.specs.Int.{bit_at}
use Rattle.paris_code.specs.declared.operands.Field.{Field}
use Rattle.paris_code.specs.Memory.{BitMemory, processors}
use Rattle.paris_code.specs.Shapes.{SetShape}
use Rattle.paris_code.specs.Writes.{Write}

-- at the positions of a block a run becomes the numbers of their lanes
abbrev pub at_block : Field → ℕ → List ℕ → Write
at_block run block words = record { run = run; writes = λ p. p / 512 == block; value = λ p. slice_index words (p % 512) }

-- the lanes of a block have the numbers in a run of its positions
pub record HoldRun (shapes : List SetShape) (m : BitMemory) (run : Field) (block : ℕ) (words : List ℕ) : Type 0 where
  pub small : (lane : ℕ) → lane < 512 → slice_index words lane < 2 ^ run.len
  pub bits : (p j : ℕ) → p / 512 ≡ block → p < processors shapes run.set → j < run.len → bit_at (slice_index words (p % 512)) j ≡ m.bit run.set p (run.offset + j)
