use Rattle.std.proofs.Common.{take}
use Rattle.call_groups.specs.Called.{Adds}
use Rattle.cstar_tree.specs.Calls.{calls_in_each}
use Rattle.call_groups.proofs.calls.Calls.+expr.Given as goal

abbrev pub invariant-arguments : goal.invariant-arguments
invariant-arguments l = Adds l.fn.self l.self (λ here. calls_in_each here (take l.argument-index l.argument-items))

abbrev pub invariant-indexes : goal.invariant-indexes
invariant-indexes l = Adds l.fn.self l.self (λ here. calls_in_each here (take l.index-index l.index-items))

abbrev pub invariant-printed : goal.invariant-printed
invariant-printed l = Adds l.fn.self l.self (λ here. calls_in_each here (take l.argument-index l.argument-items))
