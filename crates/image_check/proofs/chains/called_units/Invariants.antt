use Rattle.std.proofs.Common.{◌≡◌, ℕ, ◌<◌, length, get_or}
use Rattle.std.specs.Prelude.{Contains}
use Rattle.image_check.specs.declared.chains.Call.{Call}
use Rattle.image_check.specs.Marks.{IsMarked}
use Rattle.image_check.proofs.chains.called_units.Given as goal

abbrev pub invariant-loop-call : goal.invariant-loop-call
invariant-loop-call l =
    record {
      same : length l.next.items ≡ length l.marks;
      only : (unit : ℕ) → IsMarked l.next.items unit →
          (call : Call) × Contains l.calls call × (call.to ≡ unit) × IsMarked l.marks call.from;
      all : (k : ℕ) → k < l.call-index → (d : Call) →
          IsMarked l.marks (get_or l.calls k d).from → (get_or l.calls k d).to < length l.next.items →
          IsMarked l.next.items (get_or l.calls k d).to;
    }
