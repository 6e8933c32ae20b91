-- The rule of the board: its words and the views of its passes show a state of the machine of which the machine's invariant holds.
use Rattle.std.specs.Prelude.{◌≡◌, ℕ, true, ◌+◌, ◌*◌, ◌^◌, ◌<◌, ◌≤◌, if◌then◌else◌, List, [], length, map, drop, slice_index, is_some, Option, Some, None}
use mathlib.Core.Option.{some}
use lib.ListN.{get_elem?}
use Rattle.atomic_table.specs.Table.{Me, State as TableState}
use Rattle.combine_core.specs.declared.kind.Kind.TheVariants as kind
use Rattle.combine_core.specs.declared.message.Message.{Message}
use Rattle.combine_core.specs.declared.worker.Held.{Held}
use Rattle.combine_core.specs.declared.worker.Worker.{Worker}
use Rattle.combine_core.specs.Machine.{State, claims_of, held, held_by, idle, spent, next_in, ahead_of, kept_part, given_part, drawn, passed_to, both_parts, weigh}
use Rattle.combine_core.specs.Kept.{Kept, IsSetting, sum_below}
use Rattle.combine_board.specs.declared.view.View.{View}
use Rattle.combine_board.specs.Values.{Plan, WholeHoldsEvery}

abbrev pub plan_of : View → Plan
plan_of v = record { kind = v.kind; slots = v.slots; home = v.home }

abbrev pub view_with : View → Worker → View
view_with v w = record { kind = v.kind; slots = v.slots; home = v.home; worker = w }

-- the state that words and views show: word 0 is the next number, and word t + 1 is the cell of target t
abbrev pub shown : Plan → List ℕ → List View → State
shown a words views = record { kind = a.kind; slots = a.slots; home = a.home; next = slice_index words 0; cells = drop 1 words; workers = map (λ v. v.worker) views }

-- every view that is not spent is of this plan
abbrev pub Alike : Plan → List View → Type 0
Alike a views = (j : ℕ) (v : View) → get_elem? views j ≡ some v → v.worker.live ≡ true → plan_of v ≡ a

pub record Holds (a : Plan) (s : TableState ℕ View) : Type 0 where
  pub wide : 0 < length s.words
  pub kept : Kept (shown a s.words s.views)
  pub alike : Alike a s.views

-- P holds of the state that words and views show, at every moment
abbrev pub AtEveryMoment : (State → Type 0) → Type 0
AtEveryMoment P = (a : Plan) (s : TableState ℕ View) → Holds a s → P (shown a s.words s.views)

abbrev pub first_view : Plan → View
first_view a = record { kind = a.kind; slots = a.slots; home = a.home; worker = idle true (2 ^ 63) }

-- what each step makes of the views
abbrev pub claimed_view : ℕ → View → View
claimed_view n v = view_with v (drawn (claims_of v.slots) n v.worker)

abbrev pub delivered_by : View → Option ℕ → View
delivered_by v None = v
delivered_by v (Some i) = view_with v (passed_to i v.worker)

abbrev pub delivered_view : View → View
delivered_view v = delivered_by v (ahead_of v.slots v.worker)

abbrev pub kept_view : View → View
kept_view v = view_with v (kept_part v.worker)

abbrev pub given_view : View → View
given_view v = view_with v (given_part v.worker)

abbrev pub both_view : View → View → View
both_view v w = view_with v (both_parts v.worker w.worker)

abbrev pub spent_view : View
spent_view = record { kind = kind.Add; slots = []; home = []; worker = spent }

-- What a pass knows of the claims that it holds: each is held once and is one of the claims, and so many of its slots are passed. And where it has all draws, it holds every claim
pub record IsTold (v : View) : Type 0 where
  pub setting : IsSetting v.slots v.home
  pub passed : ℕ → ℕ
  pub once : (g : ℕ → ℕ → ℕ) → weigh g v.worker ≤ sum_below (claims_of v.slots) (λ c. g c (passed c))
  pub within : (c : ℕ) → c < claims_of v.slots → (passed c ≤ 512) × (512 * c + passed c ≤ length v.slots)
  pub fits : length (held_by v.worker) + v.worker.misses + v.worker.draws ≤ 2 ^ 63
  pub whole : WholeHoldsEvery v.slots v.worker

-- what a step tells its pass: its own view, and of no other
abbrev pub Claimed : Me ℕ View → ℕ → Me ℕ View → Type 0
Claimed v n w = (w ≡ (claimed_view n v.0, v.1)) × IsTold (claimed_view n v.0) × (n < 2 ^ 63)

abbrev pub Delivered : Me ℕ View → ℕ → Me ℕ View → Type 0
Delivered v n w = (w ≡ (delivered_view v.0, v.1)) × IsTold (delivered_view v.0)

abbrev pub Looked : Me ℕ View → ℕ → Me ℕ View → Type 0
Looked v n w = (w ≡ v) × IsTold v.0

-- how many of the claims that a worker holds have all messages delivered
abbrev pub done_claim : List (Option Message) → ℕ → ℕ → ℕ
done_claim os c p = if is_some (next_in os (held c p)) then 0 else 1

abbrev pub done_in : List (Option Message) → Worker → ℕ
done_in os v = weigh (done_claim os) v

-- what a pass keeps beside its view
pub record IsPass (v : View) (last : Option Held) (next : Option ℕ) (number : Option ℕ) (done : ℕ) : Type 0 where
  pub live : v.worker.live ≡ true
  pub last_is : last ≡ v.worker.last
  pub next_is : next ≡ ahead_of v.slots v.worker
  pub number_is : number ≡ v.worker.number
  pub done_is : done ≡ done_in v.slots v.worker
  pub told : IsTold v
