use Rattle.std.proofs.Common.{◌≡◌}
use Rattle.type_expressions.specs.Answers.{trees}
use Rattle.type_expressions.proofs.calls.unboxed.Given as goal

abbrev pub invariant-loop-argument : goal.invariant-loop-argument
invariant-loop-argument l = l.values.items ≡ trees l.yielded
