-- Images that keep all image rules.
use Rattle.std.specs.Prelude.{◌≡◌, ℕ, ◌<◌, ◌≤◌, ◌^◌, true, List, length, All}
use Rattle.vp_sets.specs.Positions.{is_geometry}
use Rattle.paris_code.specs.declared.instr.Instr.{Instr}
use Rattle.paris_code.specs.declared.operands.Field.{Field}
use Rattle.paris_code.specs.declared.program.Final.{Final}
use Rattle.paris_code.specs.declared.program.Image.{Image}
use Rattle.paris_code.specs.Shapes.{SetShape, shapes_of}
use Rattle.paris_code.specs.Units.{IsAt}
use Rattle.paris_code.specs.RuleTarget.{HasUnits, KeepsTarget}
use Rattle.paris_code.specs.RuleField.{Fits, KeepsField}
use Rattle.paris_code.specs.RuleStack.{KeepsStack}
use Rattle.paris_code.specs.RuleBackEdge.{KeepsBackEdge}
use Rattle.paris_code.specs.RuleSet.{FieldExists, KeepsSet}
use Rattle.paris_code.specs.RuleOperands.{KeepsOperands}

-- the units and the instructions can be numbered in 32 bits
abbrev pub IsNumbered : Image → Type 0
IsNumbered image = (length image.units.items < 2 ^ 32) × (length image.code.items < 2 ^ 32)

-- the shapes are few enough, and each is a grid with bits that can be numbered
abbrev pub IsShape : SetShape → Type 0
IsShape shape = (is_geometry shape.extents ≡ true) × (shape.bits ≤ 2 ^ 30)

abbrev pub KeepsShapes : List SetShape → Type 0
KeepsShapes shapes = (length shapes ≤ 65536) × All IsShape shapes

-- the rules at one instruction
pub record KeepsRules (image : Image) (place : ℕ) (instr : Instr) : Type 0 where
  pub target : KeepsTarget image place instr
  pub field : KeepsField (shapes_of image) image.slots instr
  pub stack : KeepsStack image place instr
  pub back_edge : KeepsBackEdge image place instr
  pub set : KeepsSet (shapes_of image) instr
  pub operands : KeepsOperands (shapes_of image) instr

abbrev pub field_of : Final → Field
field_of f = f.field

-- all rules hold: of the units, of the shapes and final variables, and at each instruction
pub record IsSound (image : Image) : Type 0 where
  pub units : HasUnits image
  pub shapes : KeepsShapes (shapes_of image)
  pub finals : All (λ f. FieldExists (shapes_of image) (field_of f) × Fits (shapes_of image) (field_of f)) image.finals.items
  pub each : (place : ℕ) (instr : Instr) → IsAt image place instr → KeepsRules image place instr
