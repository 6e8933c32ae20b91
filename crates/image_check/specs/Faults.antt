-- Where an image breaks a rule, and what a refusal answers.
use Rattle.std.specs.Prelude.{◌≡◌, ◌<◌, ℕ, length, All}
use Rattle.paris_code.specs.declared.instr.Instr.{Instr}
use Rattle.paris_code.specs.declared.program.Image.{Image}
use Rattle.paris_code.specs.Shapes.{shapes_of}
use Rattle.paris_code.specs.Units.{IsAt}
use Rattle.paris_code.specs.RuleTarget.{HasUnits, KeepsTarget}
use Rattle.paris_code.specs.RuleField.{Fits, KeepsField}
use Rattle.paris_code.specs.RuleStack.{KeepsStack}
use Rattle.paris_code.specs.RuleBackEdge.{KeepsBackEdge}
use Rattle.paris_code.specs.RuleSet.{FieldExists, KeepsSet}
use Rattle.paris_code.specs.RuleOperands.{KeepsOperands}
use Rattle.paris_code.specs.Sound.{KeepsShapes, field_of}
use Rattle.image_check.specs.declared.fault.Rule.{Rule}
use Rattle.image_check.specs.declared.fault.Rule.TheVariants as R

abbrev pub number_of : Rule → ℕ
number_of R.Target = 1
number_of R.Field = 2
number_of R.Stack = 3
number_of R.BackEdge = 4
number_of R.Set = 5
number_of R.Operands = 6

-- an instruction keeps a rule
abbrev pub KeepsRule : Image → ℕ → Instr → Rule → Type 0
KeepsRule image place instr R.Target = KeepsTarget image place instr
KeepsRule image place instr R.Field = KeepsField (shapes_of image) image.slots instr
KeepsRule image place instr R.Stack = KeepsStack image place instr
KeepsRule image place instr R.BackEdge = KeepsBackEdge image place instr
KeepsRule image place instr R.Set = KeepsSet (shapes_of image) instr
KeepsRule image place instr R.Operands = KeepsOperands (shapes_of image) instr

-- the shapes and the final variables keep a rule
abbrev pub PartsKeep : Image → Rule → Type 0
PartsKeep image R.Field = All (λ f. Fits (shapes_of image) (field_of f)) image.finals.items
PartsKeep image R.Set =
    KeepsShapes (shapes_of image) × All (λ f. FieldExists (shapes_of image) (field_of f)) image.finals.items
PartsKeep image _ = Unit {0}

-- the instruction at a place keeps a rule; and at the end of the code the shapes and the final variables do
abbrev pub Keeps : Image → Rule → ℕ → Type 0
Keeps image rule at =
    ((instr : Instr) → IsAt image at instr → KeepsRule image at instr rule)
    × (at ≡ length image.code.items → PartsKeep image rule)

abbrev pub Breaks : Image → Rule → ℕ → Type 0
Breaks image rule at = ¬ Keeps image rule at

-- the least place at which a rule is broken, and the least rule that is broken there
pub record IsFirstFault (image : Image) (rule : Rule) (at : ℕ) : Type 0 where
  pub broken : Breaks image rule at
  pub before : (place : ℕ) (other : Rule) → place < at → Keeps image other place
  pub lower : (other : Rule) → number_of other < number_of rule → Keeps image other at

-- where the units are broken, that alone is answered, by rule 1 at the end of the code
pub record IsAnswer (image : Image) (rule : Rule) (at : ℕ) : Type 0 where
  pub first : HasUnits image → IsFirstFault image rule at
  pub units : ¬ HasUnits image → (rule ≡ R.Target) × (at ≡ length image.code.items)
