use Rattle.std.proofs.Common.{◌≡◌, ℕ, ◌+◌, ◌*◌, ◌<◌, None, length, get_or}
use Rattle.combine_send.specs.Senders.{IsSlotOf}
use Rattle.combine_send.proofs.senders.fill_part.Given as goal

abbrev pub invariant-loop-j : goal.invariant-loop-j
invariant-loop-j g l =
    (length l.slots ≡ length l.initial.slots)
    × ((i : ℕ) → i < length l.slots → i < 512 * l.j → IsSlotOf l.senders (512 * l.first + i) (get_or l.slots i None))
