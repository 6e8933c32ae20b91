-- Slots whose senders rise, with one more behind them.
use Rattle.std.proofs.Common.{◌≡◌, ℕ, ◌+◌, ◌≤◌, List, [], ◌∷◌, ◌++◌, Option, Some, None, refl}
use Rattle.combine_core.specs.declared.message.Message.{Message}
use Rattle.combine_core.specs.Cells.{RisesFrom}

-- the least sender that may stand behind these slots
abbrev pub low_after : ℕ → List (Option Message) → ℕ
low_after low [] = low
low_after low (None ∷ os) = low_after low os
low_after low (Some m ∷ os) = low_after (m.sender + 1) os

pub RisesFrom-push : (low : ℕ) (os : List (Option Message)) (m : Message) → RisesFrom low os → low_after low os ≤ m.sender → RisesFrom low (os ++ Some m ∷ [])
RisesFrom-push low [] m r h = (h, tt)
RisesFrom-push low (None ∷ os) m r h = RisesFrom-push low os m r h
RisesFrom-push low (Some x ∷ os) m r h = (r.0, RisesFrom-push (x.sender + 1) os m r.1 h)

pub low_after-push : (low : ℕ) (os : List (Option Message)) (m : Message) → low_after low (os ++ Some m ∷ []) ≡ m.sender + 1
low_after-push low [] m = refl
low_after-push low (None ∷ os) m = low_after-push low os m
low_after-push low (Some x ∷ os) m = low_after-push (x.sender + 1) os m
