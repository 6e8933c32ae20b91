use Rattle.std.proofs.Common.{◌≡◌, ℕ, ◌%◌, ◌^◌, ◌<◌, length}
use Rattle.std.specs.Prelude.{slice_index}
use Rattle.cstar_base.specs.Operators.{outcome}
use Rattle.paris_code.specs.Operators.{operator_of}
use Rattle.elementwise.proofs.in_block.lane_by_lane.Given as goal

-- the lanes so far have their words
abbrev pub invariant-lanes : goal.invariant-lanes
invariant-lanes l =
    (length l.words ≡ 512)
    × ((j : ℕ) → j < l.i → slice_index l.words j % 2 ^ l.len ≡ outcome (operator_of l.op).0 l.len (operator_of l.op).1 (slice_index l.x j) (slice_index l.y j))
