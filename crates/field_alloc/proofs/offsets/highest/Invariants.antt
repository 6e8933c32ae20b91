use Rattle.std.proofs.Common.{ℕ, ◌<◌, ◌≤◌}
use Rattle.std.specs.List.{slice_index}
use Rattle.field_alloc.proofs.offsets.highest.Given as goal

abbrev pub invariant-loop-at : goal.invariant-loop-at
invariant-loop-at l = (k : ℕ) → l.fn.span.first ≤ k → k < l.at → slice_index l.heights k ≤ l.most
