use Rattle.std.proofs.Common.{◌≡◌, ℕ, ◌+◌, ◌*◌, ◌%◌, ◌^◌, ◌<◌, length}
use Rattle.std.specs.Prelude.{slice_index}
use Rattle.elementwise.proofs.columns.joined.Given as goal

-- the lanes so far have their numbers
abbrev pub invariant-lanes : goal.invariant-lanes
invariant-lanes l = (length l.words ≡ 512) × ((j : ℕ) → j < l.i → slice_index l.words j ≡ (slice_index l.numbers j * l.extent % 2 ^ 32 + slice_index l.last j) % 2 ^ 32)
