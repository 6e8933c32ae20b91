-- A tree of workers over a board.
use Rattle.std.specs.Prelude.{◌≡◌, ℕ, ◌+◌, ◌<◌, List, length, All, Option, None}
use Rattle.combine_core.specs.declared.message.Message.{Message}
use Rattle.combine_core.specs.declared.worker.Held.{Held}
use Rattle.combine_core.specs.declared.worker.Worker.{Worker}
use Rattle.combine_core.specs.Machine.{held_by, next_in}
use Rattle.combine_board.specs.Values.{WholeHoldsEvery}

-- all messages of these claims are delivered
abbrev pub AllDone : List (Option Message) → List Held → Type 0
AllDone os hs = All (λ h. next_in os h ≡ None) hs

-- a worker of a tree that began with so many draws has done all its work: it met the end of the claims, all messages of its claims are delivered, and no draw is lost
pub record IsFinished (os : List (Option Message)) (draws : ℕ) (v : Worker) : Type 0 where
  pub done : AllDone os (held_by v)
  pub missed : 0 < v.misses
  pub all : length (held_by v) + v.misses + v.draws ≡ draws
  pub whole : WholeHoldsEvery os v
