use Rattle.std.proofs.Common.{◌≡◌, ℕ, ◌<◌, ◌≤◌, length}
use Rattle.std.specs.Prelude.{false, IsTrue}
use Rattle.image_check.specs.Calls.{IsReached}
use Rattle.image_check.specs.Marks.{IsMarked, unmarked}
use Rattle.image_check.proofs.CallLaws.{IsClosedTo}
use Rattle.image_check.proofs.chains.spread_each.Given as goal

abbrev pub invariant-loop-call : goal.invariant-loop-call
invariant-loop-call l =
    record {
      same : length l.marks.items ≡ length l.fn.marks.items;
      kept : (other : ℕ) → IsMarked l.fn.marks.items other → IsMarked l.marks.items other;
      only : (other : ℕ) → IsMarked l.marks.items other → IsReached l.calls l.fn.marks.items other;
      no_more : unmarked l.marks.items ≤ unmarked l.fn.marks.items;
      more : IsTrue l.spreads → unmarked l.marks.items < unmarked l.fn.marks.items;
      still : l.spreads ≡ false → IsClosedTo l.calls l.marks.items l.call-index;
    }
