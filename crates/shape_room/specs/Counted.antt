-- Numbers as far as they are counted.
use Rattle.std.specs.Prelude.{ℕ, ◌-◌, ◌^◌, min}

-- in 64 bits
abbrev pub counted : ℕ → ℕ
counted n = min n (2 ^ 64 - 1)

-- the needs of a typed program have 32 bits
abbrev pub kept : ℕ → ℕ
kept n = min n (2 ^ 32 - 1)
