use Rattle.std.proofs.Common.{◌≡◌, ℕ, ◌+◌, ◌-◌, ◌*◌, ◌<◌, ◌≤◌, None, length, get_or}
use Rattle.combine_send.specs.Senders.{IsSlotOf}
use Rattle.combine_send.proofs.senders.fill_block.Given as goal

abbrev pub invariant-loop-i : goal.invariant-loop-i
invariant-loop-i l =
    (length l.slots ≡ length l.initial.slots)
    × ((j : ℕ) → l.from ≤ j → j < l.from + l.i → IsSlotOf l.senders (512 * l.k + (j - l.from)) (get_or l.slots j None))
    × ((j : ℕ) → j < l.from → get_or l.slots j None ≡ get_or l.initial.slots j None)
