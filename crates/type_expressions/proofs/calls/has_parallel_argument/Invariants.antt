use Rattle.std.proofs.Common.{length}
use Rattle.type_expressions.specs.Answers.{trees}
use Rattle.type_expressions.proofs.CallArguments.{AreFit}
use Rattle.type_expressions.proofs.calls.has_parallel_argument.Given as goal

abbrev pub invariant-loop-ty : goal.invariant-loop-ty
invariant-loop-ty l = AreFit (length l.yielded) l.header.parameters.items (trees l.arguments)
