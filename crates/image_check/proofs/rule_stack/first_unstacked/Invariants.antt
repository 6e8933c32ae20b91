use Rattle.std.proofs.Common.{ℕ, ◌<◌}
use Rattle.paris_code.specs.declared.instr.Instr.{Instr}
use Rattle.paris_code.specs.Units.{IsAt}
use Rattle.paris_code.specs.RuleStack.{KeepsStack}
use Rattle.image_check.proofs.rule_stack.first_unstacked.Given as goal

abbrev pub invariant-loop-place : goal.invariant-loop-place
invariant-loop-place l =
    (k : ℕ) → k < l.place → (instr : Instr) → IsAt l.image k instr → KeepsStack l.image k instr
