-- Where the parallel variables of the file stand in an image. Each element of each of them is a final variable of the
-- image, in the order of the variables.
use Rattle.std.specs.Prelude.{ℕ, ◌≡◌, ◌+◌, ◌<◌, Option, Some, None, slice_get}
use Rattle.std.specs.List.{slice_index}
use Rattle.cstar_tree.specs.declared.typed.Typed.{Typed}
use Rattle.cstar_tree.specs.declared.typed.VarInfo.{VarInfo}
use Rattle.lower_base.specs.Layouts.{entries_of, first_fields}
use Rattle.paris_code.specs.declared.operands.Field.{Field}
use Rattle.paris_code.specs.declared.program.Final.{Final}
use Rattle.paris_code.specs.declared.program.Image.{Image}
use Rattle.source_meaning.specs.Programs.{extents_of}
use Rattle.vp_sets.specs.Positions.{position_count}

-- an element of a parallel variable of the file, which has the shape
pub record IsElement (t : Typed) (k : ℕ) (info : VarInfo) (set e : ℕ) : Type 0 where
  pub known : slice_get t.vars.items k ≡ Some info
  pub parallel : info.shape ≡ Some set
  pub within : e < entries_of info

-- the number of its final variable
abbrev pub file_number : Typed → ℕ → ℕ → ℕ
file_number t k e = slice_index (first_fields 0 t.vars.items) k + e

unfoldable pub field_or_none : Option Final → Field
field_or_none None = record { set = 0; offset = 0; len = 0 }
field_or_none (Some last) = last.field

-- its field in the image
unfoldable pub file_field : Typed → Image → ℕ → ℕ → Field
file_field t image k e = field_or_none (slice_get image.finals.items (file_number t k e))

-- how many positions a shape has
abbrev pub positions_of : Typed → ℕ → ℕ
positions_of t set = position_count (extents_of (slice_get t.shapes.items set))
