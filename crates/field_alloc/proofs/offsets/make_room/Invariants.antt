use Rattle.std.proofs.Common.{◌-◌, ◌≤◌, length}
use Rattle.field_alloc.proofs.offsets.make_room.Given as goal

abbrev pub invariant-more : goal.invariant-more
invariant-more l = length l.heights.items ≤ l.fn.size

abbrev pub decreases-more : goal.decreases-more
decreases-more l = l.fn.size - length l.heights.items
