use Rattle.std.proofs.Common.{◌≡◌, ℕ, ◌*◌, ◌<◌, min, None, length, get_or}
use Rattle.combine_send.specs.Senders.{IsSlotOf}
use Rattle.combine_send.proofs.senders.filled_by_one.Given as goal

abbrev pub invariant-loop-k : goal.invariant-loop-k
invariant-loop-k g l =
    (length l.slots.items ≡ min (512 * l.k) l.count)
    × ((i : ℕ) → i < length l.slots.items → IsSlotOf l.senders i (get_or l.slots.items i None))
