-- What the tables hold that the check makes of an image before it looks at the instructions.
use Rattle.std.specs.Prelude.{◌≡◌, ◌≢◌, ℕ, ◌<◌, ◌≤◌, ◌↔◌, Bool, List, length, Some, MatchOption}
use Rattle.std.specs.List.{slice_get, slice_index}
use Rattle.paris_code.specs.declared.instr.Instr.{Instr}
use Rattle.paris_code.specs.declared.program.Image.{Image}
use Rattle.paris_code.specs.Units.{unit_of, IsAt}
use Rattle.paris_code.specs.RuleStack.{KeepsStack}
use Rattle.paris_code.specs.RuleBackEdge.{IsNoJumpTo}
use Rattle.paris_code.specs.Sound.{KeepsRules}
use Rattle.image_check.specs.declared.check.Tables.{Tables}
use Rattle.image_check.specs.declared.fault.Rule.{Rule}
use Rattle.image_check.specs.Faults.{number_of, KeepsRule, PartsKeep}
use Rattle.image_check.specs.Marks.{IsMarked}

-- the first so many units are there, and begin at or before a place
abbrev pub AreBegun : List ℕ → ℕ → ℕ → Type 0
AreBegun starts count place =
    (count ≤ length starts) × ((unit : ℕ) → unit < count → slice_index starts unit ≤ place)

-- the unit of each instruction
pub record AreUnitNumbers (image : Image) (numbers : List ℕ) : Type 0 where
  pub each : length numbers ≡ length image.code.items
  pub unit : (place : ℕ) → place < length numbers → slice_index numbers place ≡ unit_of image place

-- those places have no mark to which no jump among the first so many instructions leads
abbrev pub MarksTargets : List Instr → ℕ → List Bool → Type 0
MarksTargets code count marks =
    (place : ℕ) → place < length marks →
    (¬ IsMarked marks place) ↔ ((from : ℕ) (jump : Instr) → from < count → slice_get code from ≡ Some jump → IsNoJumpTo place jump)

-- no call of the image breaks image rule 3
abbrev pub AllKeepStack : Image → Type 0
AllKeepStack image = (place : ℕ) (instr : Instr) → IsAt image place instr → KeepsStack image place instr

-- a call breaks image rule 3, and none before it does
pub record IsFirstUnstacked (image : Image) (place : ℕ) : Type 0 where
  pub inside : place < length image.code.items
  pub broken : ¬ ((instr : Instr) → IsAt image place instr → KeepsStack image place instr)
  pub before : (earlier : ℕ) (instr : Instr) → earlier < place → IsAt image earlier instr → KeepsStack image earlier instr

-- all that the check knows of an image before it looks at the instructions
pub record AreTables (image : Image) (tables : Tables) : Type 0 where
  pub numbers : AreUnitNumbers image tables.numbers.items
  pub marked : length tables.marks.items ≡ length image.code.items
  pub marks : MarksTargets image.code.items (length image.code.items) tables.marks.items
  pub stack : MatchOption tables.unstacked (AllKeepStack image) (IsFirstUnstacked image)

-- the tables tell whether an instruction keeps image rule 3
abbrev pub TellsStack : Image → Tables → ℕ → Instr → Type 0
TellsStack image tables place instr =
    (tables.unstacked ≡ Some place → ¬ KeepsStack image place instr)
    × (tables.unstacked ≢ Some place → KeepsStack image place instr)

-- a rule that an instruction breaks, while it keeps all lower ones
abbrev pub IsLeastRule : Image → ℕ → Instr → Rule → Type 0
IsLeastRule image place instr rule =
    ¬ KeepsRule image place instr rule × ((other : Rule) → number_of other < number_of rule → KeepsRule image place instr other)

-- a rule that the shapes or the final variables break, while they keep all lower ones
abbrev pub IsLeastRuleOfParts : Image → Rule → Type 0
IsLeastRuleOfParts image rule =
    ¬ PartsKeep image rule × ((other : Rule) → number_of other < number_of rule → PartsKeep image other)

-- no instruction of the image breaks an image rule
abbrev pub AllKeepRules : Image → Type 0
AllKeepRules image = (place : ℕ) (instr : Instr) → IsAt image place instr → KeepsRules image place instr
