-- Gates of two bits, and of numbers bit by bit.
use Rattle.std.specs.Prelude.{ℕ, ◌+◌, ◌%◌, min, max, bit_and, bit_or, bit_xor}
use Rattle.lane_kernels.specs.declared.gates.Gate.{Gate}
use Rattle.lane_kernels.specs.declared.gates.Gate.TheVariants.{And, Or, Xor}

abbrev pub gate_bit : Gate → ℕ → ℕ → ℕ
gate_bit And x y = min x y
gate_bit Or x y = max x y
gate_bit Xor x y = (x + y) % 2

abbrev pub gate_of : Gate → ℕ → ℕ → ℕ
gate_of And x y = bit_and x y
gate_of Or x y = bit_or x y
gate_of Xor x y = bit_xor x y
