use Rattle.std.proofs.Common.{◌≡◌, ℕ, ◌+◌, ◌/◌, ◌%◌, ◌<◌, ◌≤◌, length}
use Rattle.std.specs.Prelude.{slice_index}
use Rattle.elementwise.specs.Columns.{Counts}
use Rattle.elementwise.proofs.columns.own_coordinates.Given as goal

-- the lanes so far have their coordinates, and the next one is known
abbrev pub invariant-lanes : goal.invariant-lanes
invariant-lanes l =
    (length l.words ≡ 512) × ((j : ℕ) → j < l.i → slice_index l.words j ≡ (l.start + j) / l.stride % l.extent)
    × Counts l.stride l.extent (l.start + l.i) l.own l.rest × (l.own < l.extent) × (0 < l.rest) × (l.rest ≤ l.stride)
