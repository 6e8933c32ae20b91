-- That linking keeps where control goes: an image of units that keep control keeps the image rules on targets
-- and on ways back.
use Rattle.std.specs.Prelude.{◌<◌, ◌==◌, ℕ, length, map}
use Rattle.cstar_tree.specs.declared.typed.Typed.{Typed}
use Rattle.paris_code.specs.declared.instr.Instr.{Instr}
use Rattle.paris_code.specs.declared.program.Image.{Image}
use Rattle.paris_code.specs.declared.program.Program.{Program}
use Rattle.paris_code.specs.declared.program.Unit.{Unit as CodeUnit}
use Rattle.paris_code.specs.Proper.{IsUnit}
use Rattle.paris_code.specs.RuleBackEdge.{KeepsBackEdge}
use Rattle.paris_code.specs.RuleTarget.{HasUnits, KeepsTarget}
use Rattle.paris_code.specs.Units.{IsAt}
use Rattle.cstar_link.specs.Linked.{IsLinked}
use Rattle.cstar_compile.specs.Compiled.{IsCompiled}
use Rattle.code_lengths.specs.Ready.{IsCodable}
use Rattle.lower_base.specs.Drafts.{step}
use Rattle.proper_code.specs.Control.{KeepsControl}
use Rattle.proper_code.specs.Loops.{BreaksStandInLoops}

-- a program has a unit, and each of its units keeps control
pub record UnitsKeep (p : Program) : Type 0 where
  pub some : 0 < length p.units.items
  pub each : (number : ℕ) (unit : CodeUnit) → IsUnit p number unit → KeepsControl (length p.units.items) (number == 0) (map step unit.code.items)

-- the image rules on targets and on ways back
pub record KeepsWays (image : Image) : Type 0 where
  pub units : HasUnits image
  pub target : (place : ℕ) (instr : Instr) → IsAt image place instr → KeepsTarget image place instr
  pub back_edge : (place : ℕ) (instr : Instr) → IsAt image place instr → KeepsBackEdge image place instr

abbrev pub LinksKeepWays : Type 0
LinksKeepWays = (p : Program) (image : Image) → IsLinked p image → UnitsKeep p → KeepsWays image

-- the image of a typed program that has code keeps them
abbrev pub CompiledKeepWays : Type 0
CompiledKeepWays = (t : Typed) (image : Image) → IsCompiled t image → IsCodable t → BreaksStandInLoops t → 0 < length t.instances.items → KeepsWays image
