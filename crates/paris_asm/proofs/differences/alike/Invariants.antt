use Rattle.std.proofs.Common.{length, ◌-◌, ◌≤◌}
use Rattle.paris_asm.proofs.differences.alike.Given as goal

abbrev pub invariant-more : goal.invariant-more
invariant-more l = (l.count ≤ length l.left) × (l.count ≤ length l.right)

abbrev pub decreases-more : goal.decreases-more
decreases-more l = length l.left - l.count
