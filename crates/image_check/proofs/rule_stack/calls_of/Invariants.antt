use Rattle.image_check.specs.Stacks.{AreCalls}
use Rattle.image_check.proofs.rule_stack.calls_of.Given as goal

abbrev pub invariant-loop-place : goal.invariant-loop-place
invariant-loop-place l = AreCalls l.image l.place l.calls.items
