use Rattle.std.proofs.Common.{◌≡◌, ℕ, ◌+◌, ◌<◌, ◌≤◌, length, slice_index}
use Rattle.std.specs.Mem.Slots.{slots_items}
use Rattle.combine_core.specs.Encodings.{decoded}
use Rattle.combine_board.proofs.board.decode_cells.Given as goal

abbrev pub invariant-loop-t : goal.invariant-loop-t
invariant-loop-t g l = record {
  len : length l.home.items ≡ length l.initial.home.items;
  before : (j : ℕ) → j < l.t → slice_index l.home.items j ≡ decoded (g.C.Combine.combines l.combiner) (slice_index l.initial.home.items j) (slice_index (slots_items l.closed.words) (j + 1));
  behind : (j : ℕ) → l.t ≤ j → slice_index l.home.items j ≡ slice_index l.initial.home.items j;
}
