-- The bits of each set of an image: none behind the furthest of its fields.
use Rattle.std.specs.Prelude.{◌≡◌, ℕ, ◌+◌, ◌<◌, ◌==◌, if◌then◌else◌, min, max, List, [], ◌∷◌, ◌++◌, map, length}
use Rattle.std.specs.List.{flat_map, slice_index}
use Rattle.paris_code.specs.declared.instr.Instr.{Instr}
use Rattle.paris_code.specs.declared.operands.Field.{Field}
use Rattle.paris_code.specs.declared.program.Final.{Final}
use Rattle.paris_code.specs.declared.program.ShapeBits.{ShapeBits}
use Rattle.paris_code.specs.Spans.{fields_of}

-- where a field of the set ends; one of another set ends nowhere in it
abbrev pub end_in : ℕ → Field → ℕ
end_in set f = if f.set == set then f.offset + f.len else 0

-- the furthest end of a field of the set
abbrev pub furthest : ℕ → List Field → ℕ
furthest set [] = 0
furthest set (f ∷ fs) = max (end_in set f) (furthest set fs)

abbrev pub final_field : Final → Field
final_field last = last.field

-- the fields that the code names, and those of the finals
abbrev pub fields_named : List Instr → List Final → List Field
fields_named code finals = flat_map fields_of code ++ map final_field finals

-- a shape with no bits behind the furthest field of its set
abbrev pub fitted_shape : List Field → ℕ → ShapeBits → ShapeBits
fitted_shape fields set s = record { extents = s.extents; bits = min s.bits (furthest set fields) }

-- the same of shapes of which the first is of this set
unfoldable pub fitted_from : List Field → ℕ → List ShapeBits → List ShapeBits
fitted_from fields set [] = []
fitted_from fields set (s ∷ ss) = fitted_shape fields set s ∷ fitted_from fields (set + 1) ss

-- the ends of the sets, and the same with those of more fields
abbrev pub AreRaised : List Field → List ℕ → List ℕ → Type 0
AreRaised fields before after =
    (set : ℕ) → set < length before → slice_index after set ≡ max (slice_index before set) (furthest set fields)
