use Rattle.std.proofs.Common.{◌≡◌, ℕ, ◌+◌, ◌%◌, ◌^◌, ◌<◌, map, length}
use Rattle.std.specs.Prelude.{slice_index}
use Rattle.paris_code.specs.Elementwise.{element, destination}
use Rattle.block_store.specs.Stored.{shape_of_plan}
use Rattle.elementwise.specs.Blocks.{block_memory}
use Rattle.elementwise.proofs.lanes.words_by_lane.Given as goal

-- the lanes so far have their words
abbrev pub invariant-lanes : goal.invariant-lanes
invariant-lanes l =
    (length l.words ≡ 512)
    × ((j : ℕ) → j < l.i → slice_index l.words j % 2 ^ (destination (map shape_of_plan l.plans) l.instr).len
    ≡ element (map shape_of_plan l.plans) l.instr l.args (block_memory l.block.planes.items) (l.start + j) % 2 ^ (destination (map shape_of_plan l.plans) l.instr).len)
