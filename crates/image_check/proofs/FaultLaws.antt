-- Where an image breaks a rule.
use Rattle.std.proofs.Common.{◌≡◌, ◌≢◌, ℕ, ◌+◌, ◌<◌, length, sym, ap, subst, inl, inr, arith, below_more}
use Rattle.std.specs.Prelude.{MatchOption, Option, Some, None}
use Rattle.std.proofs.lemmas.Bool.{cases_eq, cases_lt}
use Rattle.std.proofs.lemmas.Option.{none-some, same_Some, slice_get_within}
use Rattle.paris_code.specs.declared.instr.Instr.{Instr}
use Rattle.paris_code.specs.declared.program.Image.{Image}
use Rattle.paris_code.specs.Units.{IsAt}
use Rattle.paris_code.specs.RuleTarget.{HasUnits}
use Rattle.paris_code.specs.RuleStack.{KeepsStack}
use Rattle.paris_code.specs.Sound.{KeepsRules, IsSound}
use Rattle.image_check.specs.declared.check.Tables.{Tables}
use Rattle.image_check.specs.declared.fault.Rule.{Rule}
use Rattle.image_check.specs.declared.fault.Rule.TheVariants as R
use Rattle.image_check.specs.Faults.{KeepsRule, PartsKeep, IsFirstFault, IsAnswer}
use Rattle.image_check.specs.Tables.{AreTables, TellsStack, AllKeepStack, AllKeepRules, IsFirstUnstacked, IsLeastRule, IsLeastRuleOfParts}

pub keeps_rule : (image : Image) (place : ℕ) (instr : Instr) → KeepsRules image place instr → (rule : Rule) → KeepsRule image place instr rule
keeps_rule image place instr keeps R.Target = keeps.target
keeps_rule image place instr keeps R.Field = keeps.field
keeps_rule image place instr keeps R.Stack = keeps.stack
keeps_rule image place instr keeps R.BackEdge = keeps.back_edge
keeps_rule image place instr keeps R.Set = keeps.set
keeps_rule image place instr keeps R.Operands = keeps.operands

parts_keep : (image : Image) → IsSound image → (rule : Rule) → PartsKeep image rule
parts_keep image sound R.Field = λ k d inside. (sound.finals k d inside).1
parts_keep image sound R.Set = (sound.shapes, (λ k d inside. (sound.finals k d inside).0))
parts_keep image sound _ = tt

-- a sound image has no fault
pub unsound : (image : Image) (rule : Rule) (at : ℕ) → IsFirstFault image rule at → ¬ IsSound image
unsound image rule at fault sound =
    fault.broken ((λ instr here. keeps_rule image at instr (sound.each at instr here) rule), (λ end. parts_keep image sound rule))

pub answer_first : (image : Image) (rule : Rule) (at : ℕ) → HasUnits image → IsFirstFault image rule at → IsAnswer image rule at
answer_first image rule at units fault =
    record { first = λ has. fault; units = λ none. absurd (none units) }

pub fault_there : (image : Image) (rule : Rule) (place : ℕ) (instr : Instr) → IsAt image place instr → IsLeastRule image place instr rule →
    ((k : ℕ) (other : Instr) → k < place → IsAt image k other → KeepsRules image k other) → IsFirstFault image rule place
fault_there image rule place instr at least earlier =
    let within : place < length image.code.items = slice_get_within image.code.items place instr at in
    record {
      broken = λ keeps. least.0 (keeps.0 instr at);
      before = λ k other below. (
        (λ i here. keeps_rule image k i (earlier k i below here) other),
        (λ end. absurd (omega (arith, below, end, within))),
      );
      lower = λ other low. (
        (λ i here. let same : instr ≡ i = cc in subst (λ (j : Instr). KeepsRule image place j other) same (least.1 other low)),
        (λ end. absurd (omega (arith, end, within))),
      );
    }

pub fault_at_end : (image : Image) (rule : Rule) (at : ℕ) → at ≡ length image.code.items → AllKeepRules image → IsLeastRuleOfParts image rule →
    IsFirstFault image rule at
fault_at_end image rule at is_end all least =
    record {
      broken = λ keeps. least.0 (keeps.1 is_end);
      before = λ place other below. (
        (λ i here. keeps_rule image place i (all place i here) other),
        (λ end. absurd (omega (arith, below, end, is_end))),
      );
      lower = λ other low. ((λ i here. keeps_rule image at i (all at i here) other), (λ end. least.1 other low));
    }

-- one more instruction that keeps the rules
pub keeps_more : (image : Image) (place : ℕ) (instr : Instr) → IsAt image place instr →
    ((k : ℕ) (other : Instr) → k < place → IsAt image k other → KeepsRules image k other) → KeepsRules image place instr →
    (k : ℕ) (other : Instr) → k < place + 1 → IsAt image k other → KeepsRules image k other
keeps_more image place instr at before here k other below there =
    let P : ℕ → Type 0 = λ m. (o : Instr) → IsAt image m o → KeepsRules image m o in
    below_more P place (λ m lower o o_there. before m o lower o_there)
    (λ o o_there. let same : instr ≡ o = cc in subst (λ (i : Instr). KeepsRules image place i) same here)
    k below other there

tells : (image : Image) (found : Option ℕ) (place : ℕ) (instr : Instr) → MatchOption found (AllKeepStack image) (IsFirstUnstacked image) →
    IsAt image place instr → ((k : ℕ) (other : Instr) → k < place → IsAt image k other → KeepsRules image k other) →
    (found ≡ Some place → ¬ KeepsStack image place instr) × (found ≢ Some place → KeepsStack image place instr)
tells image None place instr stack at earlier = ((λ e. absurd (none-some place e)), (λ other. stack place instr at))
tells image (Some first) place instr stack at earlier = (
  (λ e keeps.
      let same : first ≡ place = same_Some first place e in
      let P : ℕ → Type 0 = λ p. (i : Instr) → IsAt image p i → KeepsStack image p i in
      stack.broken (subst P (sym same)
      (λ i here. let one : instr ≡ i = cc in subst (λ (j : Instr). KeepsStack image place j) one keeps))),
  (λ other.
      elim (cases_eq place first) [
        | inl h ↦ absurd (other (ap (λ (p : ℕ). Some p) (sym h)))
        | inr h ↦ elim (cases_lt place first) [
          | inl below ↦ stack.before place instr below at
          | inr above ↦ absurd (stack.broken (λ i here. (earlier first i (omega (arith, above, h)) here).stack))
        ]
      ]),
)

pub tells_stack : (image : Image) (tables : Tables) (place : ℕ) (instr : Instr) → AreTables image tables → IsAt image place instr →
    ((k : ℕ) (other : Instr) → k < place → IsAt image k other → KeepsRules image k other) → TellsStack image tables place instr
tells_stack image tables place instr known at earlier = tells image tables.unstacked place instr known.stack at earlier
