use Rattle.std.proofs.Common.{◌≡◌, ◌++◌, drop}
use Rattle.lower_comm.specs.Messages.{grid_steps}
use Rattle.lower_comm.proofs.addresses.grid_steps.Given as goal

abbrev pub invariant-loop-axis : goal.invariant-loop-axis
invariant-loop-axis l = l.steps.items ++ grid_steps l.of l.axis (drop l.axis l.indexes) ≡ grid_steps l.of 0 l.indexes
