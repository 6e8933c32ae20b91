-- What a call on the outside does to the count of faults, a number of 64 bits that stops at its last value.
use Rattle.std.specs.Prelude.{ℕ, ◌+◌, ◌^◌, ◌<◌, ◌≤◌}

-- the count stood below its last value, so that a fault shows
abbrev pub CanRise : ℕ → Type 0
CanRise count = count + 1 < 2 ^ 64

-- a failed call raises the count where it can rise; the count never falls and keeps to 64 bits
abbrev pub RisesBy : ℕ → ℕ → Type 0
RisesBy old new = (old ≤ new) × (CanRise old → old < new) × (new < 2 ^ 64)
