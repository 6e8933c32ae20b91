-- The calls of an image, and the chains of them.
use Rattle.std.specs.Prelude.{◌≡◌, ℕ, ◌<◌, List, length, Contains}
use Rattle.paris_code.specs.declared.instr.Instr.TheVariants as I
use Rattle.paris_code.specs.declared.program.Image.{Image}
use Rattle.paris_code.specs.Units.{unit_of, IsAt}
use Rattle.image_check.specs.declared.chains.Call.{Call}
use Rattle.image_check.specs.declared.rule_stack.Chains.{Chains}
use Rattle.image_check.specs.Calls.{AreMadeBy, AreMarks, AreLong, IsDeep}

-- the calls are those of the first so many instructions
pub record AreCalls (image : Image) (end : ℕ) (calls : List Call) : Type 0 where
  pub real : (call : Call) → Contains calls call →
      (place : ℕ) × IsAt image place (I.FrontCall call.to) × (unit_of image place ≡ call.from)
  pub each : (place to : ℕ) → place < end → IsAt image place (I.FrontCall to) →
      Contains calls (record { from = unit_of image place; to = to })

-- all that the check knows of the chains of calls
pub record AreChains (image : Image) (chains : Chains) : Type 0 where
  pub calls : AreCalls image (length image.code.items) chains.calls.items
  pub made : AreMadeBy (length image.units.items) chains.calls.items
  pub deep : AreMarks (length image.units.items) chains.deep.items (IsDeep chains.calls.items image.depth)
  pub long : AreLong (length image.units.items) chains.calls.items chains.long.items
