use Rattle.std.proofs.Common.{◌≡◌, true, drop, map, take}
use Rattle.lower_comm.specs.Messages.{all_in_registers, index_register}
use Rattle.lower_comm.proofs.addresses.registers.Given as goal

abbrev pub invariant-loop-index : goal.invariant-loop-index
invariant-loop-index l = (l.registers.items ≡ map index_register (take l.index-index l.indexes)) × (all_in_registers (drop l.index-index l.indexes) ≡ true)
