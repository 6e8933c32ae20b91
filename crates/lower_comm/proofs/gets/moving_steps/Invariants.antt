use Rattle.std.proofs.Common.{◌≡◌, ◌++◌, drop}
use Rattle.lower_comm.specs.Messages.{moving_steps}
use Rattle.lower_comm.proofs.gets.moving_steps.Given as goal

abbrev pub invariant-loop-axis : goal.invariant-loop-axis
invariant-loop-axis l = l.steps.items ++ moving_steps l.of l.axis (drop l.axis l.indexes) ≡ moving_steps l.of 0 l.indexes
