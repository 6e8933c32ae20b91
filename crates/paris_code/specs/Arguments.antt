-- The values of operands that are registers: an instruction is given them in the order of its
-- operands, and each operand that is a register takes the next one.
use Rattle.std.specs.Prelude.{ℕ, ℤ, Bool, List, [], ◌∷◌, slice_index, drop}
use Rattle.cstar_base.specs.Numbers.{number_of}
use Rattle.paris_code.specs.declared.operands.Konst.{Konst}
use Rattle.paris_code.specs.declared.operands.Konst.TheVariants as K
use Rattle.paris_code.specs.declared.operands.Coordinate.{Coordinate}
use Rattle.paris_code.specs.declared.operands.Coordinate.TheVariants as C
use Rattle.paris_code.specs.Memory.{BitMemory, field_number, whole_number}

abbrev pub konst_number : Konst → List ℕ → ℕ
konst_number (K.Imm n) args = n
konst_number (K.Reg r) args = slice_index args 0

abbrev pub behind_konst : Konst → List ℕ → List ℕ
behind_konst (K.Imm n) args = args
behind_konst (K.Reg r) args = drop 1 args

-- a coordinate at a processor, unsigned, and as a whole number that is read signed or unsigned
abbrev pub coordinate_number : BitMemory → Coordinate → List ℕ → ℕ → ℕ
coordinate_number m (C.Field f) args p = field_number m f p
coordinate_number m (C.Reg r) args p = slice_index args 0

abbrev pub coordinate_whole : BitMemory → Bool → Coordinate → List ℕ → ℕ → ℤ
coordinate_whole m signed (C.Field f) args p = whole_number m signed f p
coordinate_whole m signed (C.Reg r) args p = number_of 32 signed (slice_index args 0)

abbrev pub behind_coordinate : Coordinate → List ℕ → List ℕ
behind_coordinate (C.Field f) args = args
behind_coordinate (C.Reg r) args = drop 1 args

-- the coordinates of an address at a processor
abbrev pub coordinate_numbers : BitMemory → List Coordinate → List ℕ → ℕ → List ℕ
coordinate_numbers m [] args p = []
coordinate_numbers m (c ∷ rest) args p = coordinate_number m c args p ∷ coordinate_numbers m rest (behind_coordinate c args) p
