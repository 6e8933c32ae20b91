use Rattle.std.proofs.Common.{ℕ, ◌*◌, ◌<◌, ◌≤◌}
use Rattle.block_store.specs.Stored.{word_at}
use Rattle.elementwise.proofs.checks.least_held.Given as goal

-- no cell so far holds a lane
abbrev pub invariant-cells : goal.invariant-cells
invariant-cells l = (j : ℕ) → j < l.k → 512 ≤ word_at l.cells (512 * j)
