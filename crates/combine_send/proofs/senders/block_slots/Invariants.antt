use Rattle.std.proofs.Common.{◌≡◌, ℕ, ◌+◌, ◌*◌, ◌<◌, None, length, get_or}
use Rattle.combine_send.specs.Senders.{IsSlotOf}
use Rattle.combine_send.proofs.senders.block_slots.Given as goal

abbrev pub invariant-loop-i : goal.invariant-loop-i
invariant-loop-i l = (length l.slots ≡ 512) × ((j : ℕ) → j < l.i → IsSlotOf l.senders (512 * l.k + j) (get_or l.slots j None))
