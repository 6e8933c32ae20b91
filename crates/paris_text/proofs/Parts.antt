-- The parts of a listing and of its lines.
use Rattle.std.proofs.Common.{ℕ, List, [], ◌∷◌, ◌++◌, map, flat_map, codes, decimal}
use Rattle.std.specs.List.{concat}
use Rattle.paris_code.specs.declared.program.Image.{Image}
use Rattle.paris_code.specs.declared.program.ShapeBits.{ShapeBits}
use Rattle.paris_code.specs.Listing.{numbered, spaced, slots_line, depth_line, final_line, unit_line, instruction_line, extent_text}
use Rattle.paris_text.specs.declared.operands.Operand.{Operand}
use Rattle.paris_text.specs.Operands.{operand_text}

-- what stands behind the final variables, behind the sizes, and behind the shapes
abbrev pub after_finals : Image → List ℕ
after_finals image = numbered unit_line 0 image.units.items ++ numbered instruction_line 0 image.code.items

abbrev pub after_sizes : Image → List ℕ
after_sizes image = flat_map final_line image.finals.items ++ after_finals image

abbrev pub after_shapes : Image → List ℕ
after_shapes image = slots_line image.slots ++ (depth_line image.depth ++ after_sizes image)

-- the end of a shape's line, and that with the extents before it
abbrev pub bits_tail : ShapeBits → List ℕ
bits_tail s = concat (codes " " ∷ decimal s.bits ∷ codes "\n" ∷ [])

abbrev pub grid : ShapeBits → List ℕ
grid s = flat_map extent_text s.extents.items ++ bits_tail s

-- operands, each behind a space
abbrev pub words : List Operand → List ℕ
words operands = flat_map spaced (map operand_text operands)
