-- What lowering makes of a typed program.
use Rattle.std.specs.Prelude.{◌≡◌, ℕ, ◌-◌, List, map, length}
use Rattle.cstar_tree.specs.declared.typed.Typed.{Typed}
use Rattle.lower_base.specs.Constants.{first_free}
use Rattle.lower_base.specs.Drafts.{draft}
use Rattle.lower_base.specs.Layouts.{layout_of}
use Rattle.paris_code.specs.declared.program.Program.{Program}
use Rattle.lower_stmt.specs.Programs.{finals_of, slots_behind, space, spaces_of, units_of}

-- A program over virtual fields describes a typed program, with these constants in registers: its
-- units, registers, open calls, sets and final variables. The registers behind those of the variables
-- and the constants are taken from unit to unit.
pub record IsLoweredWith (t : Typed) (words : List ℕ) (p : Program) : Type 0 where
  pub units : map draft p.units.items ≡ units_of t words t.instances.items 0 (first_free (layout_of t words 0))
  pub slots : p.slots ≡ slots_behind (first_free (layout_of t words 0)) (map draft p.units.items)
  pub depth : p.depth ≡ length t.instances.items - 1
  pub shapes : map space p.shapes.items ≡ spaces_of t.shapes.items t.need.items
  pub finals : p.finals.items ≡ finals_of t.vars.items 0

-- which numbers stand in registers is the compiler's choice
pub record IsLowered (t : Typed) (p : Program) : Type 0 where
  pub words : List ℕ
  pub as_described : IsLoweredWith t words p
