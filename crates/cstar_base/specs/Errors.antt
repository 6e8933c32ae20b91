-- The error of all calls that take memory.
use Rattle.cstar_base.specs.declared.memory.Memory.{Memory}

-- the one value of `Memory`
abbrev pub memory_error : Memory
memory_error = record {}
