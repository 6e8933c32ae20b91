use Rattle.std.proofs.Common.{◌≡◌, ℕ, ◌<◌, ◌≤◌, length}
use Rattle.std.specs.Prelude.{slice_index}
use Rattle.combine_core.specs.Encodings.{joined}
use Rattle.combine_send.proofs.apart.join_cells.Given as goal

abbrev pub invariant-loop-t : goal.invariant-loop-t
invariant-loop-t g l = record {
  wide : length l.cells ≡ length l.initial.cells;
  before : (j : ℕ) → j < l.t → slice_index l.cells j ≡ joined (g.C.Combine.combines l.combiner) (slice_index l.initial.cells j) (slice_index l.others j);
  behind : (j : ℕ) → l.t ≤ j → slice_index l.cells j ≡ slice_index l.initial.cells j;
}
