use Rattle.cstar_tree.specs.Conversions.{ArePromoted}
use Rattle.type_expressions.specs.Answers.{trees}
use Rattle.type_expressions.proofs.calls.promoted_arguments.Given as goal

abbrev pub invariant-loop-argument : goal.invariant-loop-argument
invariant-loop-argument l = ArePromoted (trees l.yielded) l.values.items
