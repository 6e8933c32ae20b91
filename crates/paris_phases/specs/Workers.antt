-- How many workers pay.
use Rattle.std.specs.Prelude.{ℕ, ◌*◌, ◌≤◌}

-- so many workers pay for a pass over so many blocks, each so many nanoseconds of work: each worker has
-- as much of it at least as all of them cost
abbrev pub Pays : ℕ → ℕ → ℕ → Type 0
Pays block_ns blocks workers = workers * workers * 60000 ≤ block_ns * blocks
