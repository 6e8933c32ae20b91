use Rattle.std.proofs.Common.{◌≡◌, ◌++◌, drop}
use Rattle.lower_comm.specs.Messages.{signed_registers}
use Rattle.lower_comm.proofs.addresses.signed_registers.Given as goal

abbrev pub invariant-loop-axis : goal.invariant-loop-axis
invariant-loop-axis l =
    l.checked.items ++ signed_registers (drop l.axis l.indexes) (drop l.axis l.registers) ≡ signed_registers l.indexes l.registers
