-- The virtual processor sets of an image, by their numbers.
use Rattle.std.specs.Prelude.{ℕ, List, [], map, length}
use Rattle.std.specs.List.{slice_index_or}
use Rattle.paris_code.specs.declared.program.ShapeBits.{ShapeBits}
use Rattle.paris_code.specs.declared.program.Image.{Image}

-- the extents of a set's grid, and the bits of each of its processors
pub record SetShape : Type 0 where
  pub extents : List ℕ
  pub bits : ℕ

-- what stands for a set that does not exist
abbrev pub no_shape : SetShape
no_shape = record { extents = []; bits = 0 }

abbrev pub shape_of : ShapeBits → SetShape
shape_of s = record { extents = s.extents.items; bits = s.bits }

abbrev pub shapes_of : Image → List SetShape
shapes_of image = map shape_of image.shapes.items

-- the bits of each processor of a set, the extents of its grid, and how many axes that has
abbrev pub bits_at : List SetShape → ℕ → ℕ
bits_at shapes set = (slice_index_or shapes set no_shape).bits

abbrev pub extents_at : List SetShape → ℕ → List ℕ
extents_at shapes set = (slice_index_or shapes set no_shape).extents

abbrev pub rank_at : List SetShape → ℕ → ℕ
rank_at shapes set = length (extents_at shapes set)
