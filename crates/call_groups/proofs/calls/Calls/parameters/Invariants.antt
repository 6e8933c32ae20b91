use Rattle.std.proofs.Common.{take}
use Rattle.call_groups.proofs.Declared.{ParametersWalk}
use Rattle.call_groups.proofs.calls.Calls.parameters.Given as goal

abbrev pub invariant-loop-parameter : goal.invariant-loop-parameter
invariant-loop-parameter l = ParametersWalk l.fn.self l.self (take l.parameter-index l.parameter-items)
