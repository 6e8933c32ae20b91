-- Where runs begin, the bits are 0 or 1.
use Rattle.std.proofs.Common.{◌<◌, ℕ, Bool, true, false, List, cond, eqb, lit<, arith, sym, subst, ap}
use Rattle.std.specs.Int.{bit_at}
use Rattle.cstar_base.specs.declared.operators.Winner.{Winner}
use Rattle.paris_code.specs.declared.program.Image.{Image}
use Rattle.paris_code.specs.Memory.{BitMemory, fresh_memory}
use Rattle.paris_code.specs.Shapes.{SetShape, bits_at, shapes_of}
use Rattle.point_bits.specs.Strings.{restored, byte_bit}
use Rattle.point_runs.specs.Points.{Resumes}
use Rattle.point_runs.specs.Starts.{Origin, new_start}
use Rattle.point_laws.specs.Joined.{HasBits, IsOrigin}
use Rattle.listed_images.specs.Meaning.{IsListable}
use Rattle.paris_code.specs.Sound.{IsSound}

flag_small : (t : Bool) → cond t 1 0 < 2
flag_small true = lit< tt
flag_small false = lit< tt

fresh_bits : (shapes : List SetShape) (winner : Winner) → HasBits shapes (record { bit = (fresh_memory shapes).bit; winner = winner })
unfolding fresh_memory
fresh_bits shapes winner set position index a b c = flag_small (eqb index (bits_at shapes set))

bit_small : (x j : ℕ) → bit_at x j < 2
bit_small x j = omega arith

restored_bits : (shapes : List SetShape) (bytes : List ℕ) (winner : Winner) → HasBits shapes (restored shapes bytes winner)
unfolding restored byte_bit
restored_bits shapes bytes winner set position index a b c = bit_small _ _

-- a new run of a sound image that is listable, and one that goes on from a point
pub new_origin : (image : Image) (winner : Winner) → IsSound image → IsListable image → IsOrigin (new_start image winner)
new_origin image winner sound listable = record { sound = sound; listable = listable; bits = fresh_bits (shapes_of image) winner }

pub resumed_origin : (bytes : List ℕ) (from : Origin) → Resumes bytes from → IsOrigin from
resumed_origin bytes from (point, is, (image, goes, starts)) = record {
  sound = image.0;
  listable = image.1;
  bits = subst (λ (m : BitMemory). HasBits (shapes_of from.image) m) (sym (ap (λ (o : Origin). o.memory) starts)) (restored_bits (shapes_of from.image) point.bits point.winner);
}
