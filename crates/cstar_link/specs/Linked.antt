-- What linking makes of a program.
use Rattle.std.specs.Prelude.{◌≡◌, ℕ, ◌+◌, List, [], ◌∷◌, ◌++◌, length, map}
use Rattle.paris_code.specs.declared.program.Unit.{Unit}
use Rattle.paris_code.specs.declared.program.Entry.{Entry}
use Rattle.paris_code.specs.declared.program.Image.{Image}
use Rattle.paris_code.specs.declared.program.Program.{Program}
use Rattle.paris_code.specs.declared.instr.Instr.{Instr}
use Rattle.paris_code.specs.declared.instr.Instr.TheVariants as I
use Rattle.cstar_link.specs.Sets.{fields_named, fitted_from}

-- an instruction of a unit that begins at `start`: its jump target counts from there
abbrev pub moved_by : ℕ → Instr → Instr
moved_by start (I.FrontJump target) = I.FrontJump (target + start)
moved_by start (I.FrontJumpZero test target) = I.FrontJumpZero test (target + start)
moved_by start (I.FrontJumpNonzero test target) = I.FrontJumpNonzero test (target + start)
moved_by start instr = instr

-- the code of units of which the first begins at `start`
unfoldable pub code_from : ℕ → List Unit → List Instr
code_from start [] = []
code_from start (u ∷ us) = map (moved_by start) u.code.items ++ code_from (start + length u.code.items) us

-- where these units begin
unfoldable pub entries_from : ℕ → List Unit → List Entry
entries_from start [] = []
entries_from start (u ∷ us) = record { name = u.name; start = start } ∷ entries_from (start + length u.code.items) us

-- an image has the units of a program as one list of code, its sets have no bits behind their furthest
-- fields, and all else is as it was
pub record IsLinked (p : Program) (image : Image) : Type 0 where
  pub code : image.code.items ≡ code_from 0 p.units.items
  pub units : image.units.items ≡ entries_from 0 p.units.items
  pub shapes : image.shapes.items ≡ fitted_from (fields_named image.code.items image.finals.items) 0 p.shapes.items
  pub slots : image.slots ≡ p.slots
  pub depth : image.depth ≡ p.depth
  pub finals : image.finals ≡ p.finals
