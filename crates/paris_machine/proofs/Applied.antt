-- An instruction that the front end asks for can be applied by phases with the image's sets.
use Rattle.std.proofs.Common.{◌≡◌, ℕ, List, length, true, sym, subst}
use Rattle.paris_code.specs.declared.instr.Instr.{Instr}
use Rattle.paris_code.specs.declared.program.Image.{Image}
use Rattle.paris_code.specs.Kinds.{is_parallel}
use Rattle.paris_code.specs.Operands.{arguments_of}
use Rattle.paris_code.specs.RuleField.{KeepsField}
use Rattle.paris_code.specs.RuleOperands.{KeepsOperands}
use Rattle.paris_code.specs.RuleSet.{KeepsSet}
use Rattle.paris_code.specs.Shapes.{SetShape, shapes_of}
use Rattle.paris_code.specs.Sound.{KeepsRules}
use Rattle.paris_code.specs.Units.{IsAt}
use Rattle.front_end.specs.Front.{State}
use Rattle.phase_meaning.specs.Apply.{CanApply}
use Rattle.paris_machine.specs.Asked.{IsAsked}

-- one instruction stands at a place
pub same_instr : (image : Image) (at : ℕ) (one other : Instr) → IsAt image at one → IsAt image at other → one ≡ other
same_instr image at one other here there = cc

pub can_apply : (image : Image) (shapes : List SetShape) (at : ℕ) (instr : Instr) (s : State) (args : List ℕ) → shapes ≡ shapes_of image → IsAsked image at s → IsAt image at instr → KeepsRules image at instr → args ≡ s.args → CanApply shapes instr args
can_apply image shapes at instr s args same asked here keeps are =
    let one = same_instr image at asked.0 instr asked.1 here in
    record {
      parallel = subst (λ (i : Instr). is_parallel i ≡ true) one asked.2;
      slots = image.slots;
      field = subst (λ (sets : List SetShape). KeepsField sets image.slots instr) (sym same) keeps.field;
      set = subst (λ (sets : List SetShape). KeepsSet sets instr) (sym same) keeps.set;
      operands = subst (λ (sets : List SetShape). KeepsOperands sets instr) (sym same) keeps.operands;
      arguments = subst (λ (list : List ℕ). length list ≡ length (arguments_of instr)) (sym are) (subst (λ (i : Instr). length s.args ≡ length (arguments_of i)) one asked.3);
    }
