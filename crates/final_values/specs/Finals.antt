-- The text of the final values of a program.
use Rattle.std.specs.Prelude.{ℕ, ℤ, pos, List, [], ◌∷◌, ◌++◌, flat_map, codes}
use Rattle.std.specs.Fmt.{signed_decimal}
use Rattle.std.specs.List.{concat, range_with_len}
use Rattle.cstar_base.specs.Numbers.{number_of, residue}
use Rattle.paris_code.specs.declared.program.Final.{Final}
use Rattle.paris_code.specs.Memory.{BitMemory, field_number, processors}
use Rattle.paris_code.specs.Shapes.{SetShape}

-- what a variable holds at a position: the number of its field, modulo 2 to the bits of its type, read as that type
unfoldable pub final_number : BitMemory → Final → ℕ → ℤ
final_number m f position = number_of f.elem.bits f.elem.signed (residue f.elem.bits (pos (field_number m f.field position)))

-- a space and a number
abbrev pub value_text : BitMemory → Final → ℕ → List ℕ
value_text m f position = codes " " ++ signed_decimal (final_number m f position)

-- the values at all positions of its set, in order
unfoldable pub values_text : List SetShape → BitMemory → Final → List ℕ
values_text shapes m f = flat_map (value_text m f) (range_with_len 0 (processors shapes f.field.set))

-- `NAME: V V ..`
abbrev pub values_line : List SetShape → BitMemory → Final → List ℕ
values_line shapes m f = concat (f.name ∷ codes ":" ∷ values_text shapes m f ∷ codes "\n" ∷ [])

-- a line for each variable
unfoldable pub finals_text : List SetShape → BitMemory → List Final → List ℕ
finals_text shapes m finals = flat_map (values_line shapes m) finals
