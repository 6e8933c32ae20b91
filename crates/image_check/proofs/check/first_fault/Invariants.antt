use Rattle.std.proofs.Common.{ℕ, ◌<◌}
use Rattle.paris_code.specs.declared.instr.Instr.{Instr}
use Rattle.paris_code.specs.Units.{IsAt}
use Rattle.paris_code.specs.Sound.{KeepsRules}
use Rattle.image_check.proofs.check.first_fault.Given as goal

abbrev pub invariant-loop-place : goal.invariant-loop-place
invariant-loop-place l =
    (k : ℕ) (instr : Instr) → k < l.place → IsAt l.image k instr → KeepsRules l.image k instr
