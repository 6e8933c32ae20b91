-- Numbers drawn from a seed.
use Rattle.std.specs.Prelude.{ℕ, ◌+◌, ◌*◌, ◌/◌, ◌%◌, ◌^◌}

-- the state after a draw
abbrev pub after : ℕ → ℕ
after state = (1664525 * state + 1013904223) % 4294967296

-- the number that a draw gives: the upper half of the new state, below the bound
abbrev pub drawn : ℕ → ℕ → ℕ
drawn state bound = (after state / 65536) % bound
