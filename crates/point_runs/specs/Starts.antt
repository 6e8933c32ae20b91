-- Where runs begin.
use Rattle.std.specs.Prelude.{ℕ, List, [], Option, Some, None, IfSome, false, replicate}
use Rattle.cstar_base.specs.declared.operators.Winner.{Winner}
use Rattle.front_end.specs.declared.kept.Kept.{Kept}
use Rattle.front_end.specs.Kept.{KeptFits}
use Rattle.paris_code.specs.declared.program.Image.{Image}
use Rattle.paris_code.specs.Memory.{BitMemory, fresh_memory}
use Rattle.paris_code.specs.Shapes.{SetShape, shapes_of}
use Rattle.point_bits.specs.Strings.{AreBits, restored}
use Rattle.point_runs.specs.declared.start.Start.{Start}

-- the image whose code is run, the state of the scalar code, and the bits of all processors
pub record Origin : Type 0 where
  pub image : Image
  pub kept : Kept
  pub memory : BitMemory

-- a new run: the first instruction, all registers 0, no open call, an input that has not ended; all
-- fields and test flags 0, all context flags 1; and this winner
abbrev pub new_start : Image → Winner → Origin
new_start image winner = record {
  image = image;
  kept = record { at = 0; regs = replicate image.slots 0; returns = []; ended = false };
  memory = record { bit = (fresh_memory (shapes_of image)).bit; winner = winner };
}

-- the bits that are given, or those of new phases
abbrev pub memory_from : List SetShape → Winner → Option (List ℕ) → BitMemory
memory_from shapes winner None = record { bit = (fresh_memory shapes).bit; winner = winner }
memory_from shapes winner (Some bits) = restored shapes bits winner

-- where a start begins its run
abbrev pub origin_of : Start → Origin
origin_of start = record {
  image = start.sound;
  kept = start.kept;
  memory = memory_from (shapes_of start.sound) start.winner start.bits;
}

-- the state fits the image, and the bits are those of its sets
pub record CanStart (start : Start) : Type 0 where
  pub fits : KeptFits start.sound start.kept
  pub bits : IfSome start.bits (AreBits (shapes_of start.sound))
