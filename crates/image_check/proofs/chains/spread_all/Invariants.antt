use Rattle.std.proofs.Common.{◌≡◌, ℕ, length}
use Rattle.image_check.specs.Calls.{IsReached}
use Rattle.image_check.specs.Marks.{IsMarked, unmarked}
use Rattle.image_check.proofs.chains.spread_all.Given as goal

abbrev pub invariant-rounds : goal.invariant-rounds
invariant-rounds l =
    record {
      same : length l.marks.items ≡ length l.fn.marks.items;
      kept : (other : ℕ) → IsMarked l.fn.marks.items other → IsMarked l.marks.items other;
      only : (other : ℕ) → IsMarked l.marks.items other → IsReached l.calls l.fn.marks.items other;
    }

abbrev pub decreases-rounds : goal.decreases-rounds
decreases-rounds l = unmarked l.marks.items
