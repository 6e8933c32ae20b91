use Rattle.std.proofs.Common.{◌≡◌, ℕ, ◌<◌, ◌≤◌, length}
use Rattle.std.specs.Prelude.{slice_index}
use Rattle.combine_core.specs.Encodings.{decoded}
use Rattle.combine_send.proofs.alone.decode_all.Given as goal

abbrev pub invariant-loop-t : goal.invariant-loop-t
invariant-loop-t g l = record {
  wide : length l.home ≡ length l.initial.home;
  before : (j : ℕ) → j < l.t → slice_index l.home j ≡ decoded (g.C.Combine.combines l.combiner) (slice_index l.initial.home j) (slice_index l.cells j);
  behind : (j : ℕ) → l.t ≤ j → slice_index l.home j ≡ slice_index l.initial.home j;
}
