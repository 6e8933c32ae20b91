use Rattle.std.proofs.Common.{◌≡◌, List, length, map, take, Some}
use Rattle.cstar_tree.specs.declared.typed.ValueType.{ValueType}
use Rattle.cstar_tree.specs.Conversions.{AreFitted}
use Rattle.type_expressions.specs.Answers.{trees}
use Rattle.type_expressions.specs.Calls.{TakesParallel}
use Rattle.type_expressions.proofs.calls.fit_arguments.Given as goal

abbrev pub invariant-loop-argument : goal.invariant-loop-argument
invariant-loop-argument l =
    (length l.fit.items ≡ length l.yielded)
    × ((types : List ValueType) → l.parameters ≡ map (λ (t : ValueType). Some t) types → (TakesParallel l.parameters (trees l.yielded) → ⊥) → AreFitted (take (length l.yielded) types) (trees l.yielded) l.fit.items)
