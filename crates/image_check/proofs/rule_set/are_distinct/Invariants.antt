use Rattle.image_check.specs.Steps.{AreDistinct}
use Rattle.image_check.proofs.rule_set.are_distinct.Given as goal

abbrev pub invariant-loop-k : goal.invariant-loop-k
invariant-loop-k l = AreDistinct l.steps l.k
