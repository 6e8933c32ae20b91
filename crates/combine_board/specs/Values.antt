-- Boards and passes, as contracts see them.
use Rattle.std.specs.Prelude.{◌≡◌, ℕ, ◌<◌, ◌+◌, ◌^◌, List, length, Any, Option, Some, option_map}
use Rattle.atomic_table.specs.Seated.{TableId}
use Rattle.combine_core.specs.declared.kind.Kind.{Kind}
use Rattle.combine_core.specs.declared.message.Message.{Message}
use Rattle.combine_core.specs.declared.worker.Held.{Held}
use Rattle.combine_core.specs.declared.worker.Worker.{Worker}
use Rattle.combine_core.specs.Machine.{claims_of, held, held_by}

-- what a board is about
pub record Plan : Type 0 where
  pub kind : Kind
  pub slots : List (Option Message)
  pub home : List ℕ

-- which board it is, and what it is about
pub record BoardValue : Type 0 where
  pub id : TableId
  pub plan : Plan

-- a worker of the machine, on its board
pub record PassValue : Type 0 where
  pub board : BoardValue
  pub worker : Worker

abbrev pub pass_with : PassValue → Worker → PassValue
pass_with p v = record { board = p.board; worker = v }

-- a worker to which this is the claim that it took last
abbrev pub with_last : Held → Worker → Worker
with_last h v = record { live = v.live; last = Some h; others = v.others; number = v.number; misses = v.misses; draws = v.draws }

-- a worker with so many slots passed in the claim that it took last
abbrev pub with_passed : ℕ → Worker → Worker
with_passed p v = record { live = v.live; last = option_map (λ h. held h.claim p) v.last; others = v.others; number = v.number; misses = v.misses; draws = v.draws }

-- the worker holds every claim
abbrev pub HoldsEvery : List (Option Message) → Worker → Type 0
HoldsEvery os v = (c : ℕ) → c < claims_of os → Any (λ h. h.claim ≡ c) (held_by v)

-- where the claims, the misses and the draws of a worker add up to 2 ^ 63 and it has a miss, it holds every claim
abbrev pub WholeHoldsEvery : List (Option Message) → Worker → Type 0
WholeHoldsEvery os v = length (held_by v) + v.misses + v.draws ≡ 2 ^ 63 → 0 < v.misses → HoldsEvery os v
