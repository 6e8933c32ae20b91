-- The fields, registers and sets that an instruction names.
use Rattle.std.specs.Prelude.{ℕ, Option, Some, None, List, [], ◌∷◌}
use Rattle.std.specs.List.{flat_map}
use Rattle.paris_code.specs.declared.operands.Konst.{Konst}
use Rattle.paris_code.specs.declared.operands.Konst.TheVariants as K
use Rattle.paris_code.specs.declared.operands.Coordinate.{Coordinate}
use Rattle.paris_code.specs.declared.operands.Coordinate.TheVariants as C
use Rattle.paris_code.specs.declared.operands.SignedCoordinate.{SignedCoordinate}
use Rattle.paris_code.specs.declared.operands.RegisterCoordinate.{RegisterCoordinate}
use Rattle.paris_code.specs.declared.operands.GridStep.{GridStep}
use Rattle.paris_code.specs.declared.instr.Instr.{Instr}
use Rattle.paris_code.specs.declared.instr.Instr.TheVariants as I

abbrev pub registers_of_coordinate : Coordinate → List ℕ
registers_of_coordinate (C.Field f) = []
registers_of_coordinate (C.Reg r) = r ∷ []

abbrev pub coordinate_of : SignedCoordinate → Coordinate
coordinate_of c = c.coordinate

abbrev pub registers_of_konst : Konst → List ℕ
registers_of_konst (K.Imm n) = []
registers_of_konst (K.Reg r) = r ∷ []

abbrev pub konst_of : GridStep → Konst
konst_of s = s.step

abbrev pub registers_of_step : GridStep → List ℕ
registers_of_step s = registers_of_konst (konst_of s)

abbrev pub register_of : RegisterCoordinate → ℕ
register_of c = c.register

-- the registers that an instruction of the phases reads, in the order of its operands
abbrev pub arguments_of : Instr → List ℕ
arguments_of (I.MoveConstant d k) = registers_of_konst k
arguments_of (I.MakeAddress d set coordinates) = flat_map registers_of_coordinate coordinates.items
arguments_of (I.OperateConstant op d a k) = registers_of_konst k
arguments_of (I.CheckTarget set place coordinates) = flat_map (λ c. registers_of_coordinate (coordinate_of c)) coordinates.items
arguments_of (I.CheckGrid set place steps) = flat_map registers_of_step steps.items
arguments_of (I.GetFromNews d a axis k) = registers_of_konst k
arguments_of (I.GetFromNewsAlways d a axis k) = registers_of_konst k
arguments_of (I.ReadFromProcessor signed r processor a) = processor ∷ []
arguments_of (I.WriteToProcessor d processor k) = processor ∷ registers_of_konst k
arguments_of _ = []

-- the register that takes the value of an instruction of the phases
abbrev pub result_of : Instr → Option ℕ
result_of (I.Global combiner r a) = Some r
result_of (I.ReadFromProcessor signed r processor a) = Some r
result_of _ = None
