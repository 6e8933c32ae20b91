use Rattle.std.proofs.Common.{◌≡◌, ℕ, ◌<◌, length}
use Rattle.std.specs.Prelude.{slice_index}
use Rattle.elementwise.proofs.columns.all_lanes.Given as goal

abbrev pub invariant-lanes : goal.invariant-lanes
invariant-lanes l = (length l.words ≡ 512) × ((j : ℕ) → j < l.i → slice_index l.words j ≡ l.number)
