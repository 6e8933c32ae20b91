-- The machine whose steps are those of a combining board: workers draw numbers, which are claims of 512 slots each, and deliver the messages of the claims that they took.
use Rattle.std.specs.Prelude.{◌≡◌, ℕ, suc, Bool, true, false, not, ◌+◌, ◌-◌, ◌*◌, ◌/◌, ◌%◌, ◌^◌, ◌<◌, ◌==◌, ◌&&◌, if◌then◌else◌, nat_lt, List, [], ◌∷◌, ◌++◌, length, map, take, drop, slice_index, slice_index_or, slice_set, sum_by, Any, Option, Some, None, option_map, option_to_list, option_and_then}
use Rattle.combine_core.specs.declared.kind.Kind.{Kind}
use Rattle.combine_core.specs.declared.message.Message.{Message}
use Rattle.combine_core.specs.declared.worker.Held.{Held}
use Rattle.combine_core.specs.declared.worker.Worker.{Worker}
use Rattle.combine_core.specs.declared.event.Event.{Event}
use Rattle.combine_core.specs.declared.event.Event.TheVariants.{Split, Claim, Deliver, Join}
use Rattle.combine_core.specs.Encodings.{encoded_home, joined}
use Rattle.combine_core.specs.Cells.{message_word}

-- Words and workers at one moment: the next number, a cell for each target, and the workers made so far. The combiner, the slots and the home values never change
pub record State : Type 0 where
  pub kind : Kind
  pub slots : List (Option Message)
  pub home : List ℕ
  pub next : ℕ
  pub cells : List ℕ
  pub workers : List Worker

-- how many claims the slots are cut into
abbrev pub claims_of : List (Option Message) → ℕ
claims_of os = (length os + 511) / 512

abbrev pub held : ℕ → ℕ → Held
held claim passed = record { claim = claim; passed = passed }

-- all claims that a worker holds
abbrev pub held_by : Worker → List Held
held_by v = option_to_list v.last ++ v.others

-- a worker that holds nothing
abbrev pub idle : Bool → ℕ → Worker
idle live draws = record { live = live; last = None; others = []; number = None; misses = 0; draws = draws }

-- a worker that was joined to another
abbrev pub spent : Worker
spent = idle false 0

abbrev pub worker_at : State → ℕ → Worker
worker_at s w = slice_index_or s.workers w spent

-- the start: one worker, with all draws
abbrev pub opening : Kind → List (Option Message) → List ℕ → State
opening k os home = record { kind = k; slots = os; home = home; next = 0; cells = map (encoded_home k) home; workers = idle true (2 ^ 63) ∷ [] }

-- the number of the first slot with a message, where the first slot of the list has number i
abbrev pub first_message : ℕ → List (Option Message) → Option ℕ
first_message i [] = None
first_message i (None ∷ os) = first_message (suc i) os
first_message i (Some m ∷ os) = Some i

-- the first slot with a message behind the passed ones of a claim
abbrev pub next_in : List (Option Message) → Held → Option ℕ
next_in os h = let at = 512 * h.claim + h.passed in first_message at (take (512 - h.passed) (drop at os))

-- the first slot with a message behind the passed ones of the claim that the worker took last
abbrev pub ahead_of : List (Option Message) → Worker → Option ℕ
ahead_of os v = option_and_then (next_in os) v.last

-- one worker keeps its claims and gives half of its draws, rounded down, to a new one
abbrev pub kept_part : Worker → Worker
kept_part v = record { live = v.live; last = v.last; others = v.others; number = v.number; misses = v.misses; draws = v.draws - v.draws / 2 }

abbrev pub given_part : Worker → Worker
given_part v = idle true (v.draws / 2)

-- a number is drawn: a new claim with no slot passed where there is that claim, and else a miss
abbrev pub drawn : ℕ → ℕ → Worker → Worker
drawn claims n v =
    if nat_lt n claims
    then record { live = v.live; last = Some (held n 0); others = held_by v; number = Some n; misses = v.misses; draws = v.draws - 1 }
    else record { live = v.live; last = v.last; others = v.others; number = Some n; misses = v.misses + 1; draws = v.draws - 1 }

-- the passed slots of the last claim now end with slot i
abbrev pub passed_to : ℕ → Worker → Worker
passed_to i v = record { live = v.live; last = option_map (λ h. held h.claim (i + 1 - 512 * h.claim)) v.last; others = v.others; number = v.number; misses = v.misses; draws = v.draws }

-- the cells after the message of a slot
abbrev pub delivered : Kind → List ℕ → Option Message → List ℕ
delivered k cells None = cells
delivered k cells (Some m) = slice_set cells m.target (joined k (slice_index cells m.target) (message_word k m))

-- one worker takes in all that another has
abbrev pub both_parts : Worker → Worker → Worker
both_parts v u = record { live = v.live; last = v.last; others = v.others ++ held_by u; number = v.number; misses = v.misses + u.misses; draws = v.draws + u.draws }

abbrev pub is_number : ℕ → Option ℕ → Bool
is_number i None = false
is_number i (Some j) = j == i

abbrev pub can_happen : State → Event → Bool
can_happen s (Split w) = (worker_at s w).live
can_happen s (Claim w) = (worker_at s w).live && nat_lt 0 (worker_at s w).draws
can_happen s (Deliver w i) = (worker_at s w).live && is_number i (ahead_of s.slots (worker_at s w))
can_happen s (Join a b) = ((worker_at s a).live && (worker_at s b).live) && not (a == b)

-- what each event does, where it can happen
abbrev pub split : State → ℕ → State
split s w = record { kind = s.kind; slots = s.slots; home = s.home; next = s.next; cells = s.cells; workers = slice_set s.workers w (kept_part (worker_at s w)) ++ given_part (worker_at s w) ∷ [] }

abbrev pub claim : State → ℕ → State
claim s w = record { kind = s.kind; slots = s.slots; home = s.home; next = s.next + 1; cells = s.cells; workers = slice_set s.workers w (drawn (claims_of s.slots) s.next (worker_at s w)) }

abbrev pub deliver : State → ℕ → ℕ → State
deliver s w i = record { kind = s.kind; slots = s.slots; home = s.home; next = s.next; cells = delivered s.kind s.cells (slice_index_or s.slots i None); workers = slice_set s.workers w (passed_to i (worker_at s w)) }

abbrev pub join : State → ℕ → ℕ → State
join s a b = record { kind = s.kind; slots = s.slots; home = s.home; next = s.next; cells = s.cells; workers = slice_set (slice_set s.workers a (both_parts (worker_at s a) (worker_at s b))) b spent }

abbrev pub happens : State → Event → State
happens s (Split w) = split s w
happens s (Claim w) = claim s w
happens s (Deliver w i) = deliver s w i
happens s (Join a b) = join s a b

-- the state after an event, which is as before where the event cannot happen
abbrev pub after : State → Event → State
after s e = if can_happen s e then happens s e else s

-- the state after a list of events
abbrev pub run : List Event → State → State
run [] s = s
run (e ∷ es) s = run es (after s e)

-- a weight of each claim and its passed slots, over all claims that a worker holds
abbrev pub weigh : (ℕ → ℕ → ℕ) → Worker → ℕ
weigh g v = sum_by (λ h. g h.claim h.passed) (held_by v)

-- among these claims is claim c, with all its messages delivered
abbrev pub IsDone : List (Option Message) → List Held → ℕ → Type 0
IsDone os hs c = Any (λ h. (h.claim ≡ c) × (next_in os h ≡ None)) hs

-- every claim is among these, with all its messages delivered
abbrev pub IsComplete : List (Option Message) → List Held → Type 0
IsComplete os hs = (c : ℕ) → c < claims_of os → IsDone os hs c

-- 1 for a claim that has slot i among its passed ones
abbrev pub covers : ℕ → ℕ → ℕ → ℕ
covers i c p = if c == i / 512 && nat_lt (i % 512) p then 1 else 0

-- slot i is passed in a worker's claim
abbrev pub is_delivered : State → ℕ → Bool
is_delivered s i = nat_lt 0 (sum_by (weigh (covers i)) s.workers)
