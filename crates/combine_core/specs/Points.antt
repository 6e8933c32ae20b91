-- What holds of the machine after every list of events.
use Rattle.std.specs.Prelude.{◌≡◌, ℕ, true, ◌+◌, ◌*◌, ◌^◌, ◌<◌, ◌≤◌, ◌==◌, List, length, slice_index, All, Any, Contains, count_by, sum_by, Option, IfSome}
use Rattle.combine_core.specs.declared.kind.Kind.{Kind}
use Rattle.combine_core.specs.declared.message.Message.{Message}
use Rattle.combine_core.specs.declared.event.Event.{Event}
use Rattle.combine_core.specs.Encodings.{encoded_home, decoded}
use Rattle.combine_core.specs.Cells.{gathered}
use Rattle.combine_core.specs.Folded.{folded}
use Rattle.combine_core.specs.Machine.{State, claims_of, held_by, worker_at, opening, run, is_delivered, IsComplete}
use Rattle.combine_core.specs.Kept.{IsSetting}

-- P holds after every list of events from every opening state
abbrev pub Always : (State → Type 0) → Type 0
Always P = (k : Kind) (os : List (Option Message)) (home : List ℕ) (events : List Event) → IsSetting os home → P (run events (opening k os home))

-- each cell is its encoded home word joined with the encoded messages delivered so far
abbrev pub CellsAreJoined : State → Type 0
CellsAreJoined s = (t : ℕ) → t < length s.home → slice_index s.cells t ≡ gathered s.kind (is_delivered s) t 0 (encoded_home s.kind (slice_index s.home t)) s.slots

-- no claim is held twice
abbrev pub HeldOnce : State → Type 0
HeldOnce s = (c : ℕ) → sum_by (λ v. count_by (λ h. h.claim == c) (held_by v)) s.workers ≤ 1

-- each held number is below the next number and below the count of claims
abbrev pub HeldInRange : State → Type 0
HeldInRange s = (w : ℕ) → All (λ h. (h.claim < s.next) × (h.claim < claims_of s.slots)) (held_by (worker_at s w))

-- the claim that a worker took last is one that it holds
abbrev pub LastIsHeld : State → Type 0
LastIsHeld s = (w : ℕ) → IfSome (worker_at s w).last (λ h. Contains (held_by (worker_at s w)) h)

-- no count of passed slots is above the number of its claim's slots
abbrev pub PassedInClaim : State → Type 0
PassedInClaim s = (w : ℕ) → All (λ h. (h.passed ≤ 512) × (512 * h.claim + h.passed ≤ length s.slots)) (held_by (worker_at s w))

-- every number below the next number and below the count of claims is held by a live worker
abbrev pub NoneLeftOut : State → Type 0
NoneLeftOut s = (c : ℕ) → c < s.next → c < claims_of s.slots → (w : ℕ) × ((worker_at s w).live ≡ true) × Any (λ h. h.claim ≡ c) (held_by (worker_at s w))

-- the next number is the number of all held claims plus all misses
abbrev pub NumbersCount : State → Type 0
NumbersCount s = s.next ≡ sum_by (λ v. length (held_by v)) s.workers + sum_by (λ v. v.misses) s.workers

-- there is a miss only where the next number is above the count of claims
abbrev pub MissesArePast : State → Type 0
MissesArePast s = 0 < sum_by (λ v. v.misses) s.workers → claims_of s.slots < s.next

-- the next number plus all draws left is 2 ^ 63
abbrev pub DrawsCount : State → Type 0
DrawsCount s = s.next + sum_by (λ v. v.draws) s.workers ≡ 2 ^ 63

-- where the claims, the misses and the draws of one worker add up to 2 ^ 63 and it has a miss, it holds every claim
abbrev pub WholeHoldsAll : State → Type 0
WholeHoldsAll s =
    (w : ℕ) → length (held_by (worker_at s w)) + (worker_at s w).misses + (worker_at s w).draws ≡ 2 ^ 63 → 0 < (worker_at s w).misses
    → (c : ℕ) → c < claims_of s.slots → Any (λ h. h.claim ≡ c) (held_by (worker_at s w))

-- where one worker holds every claim with all messages delivered, the decoded cells are the folds in the order of the senders
abbrev pub CompleteIsFolded : State → Type 0
CompleteIsFolded s =
    (w : ℕ) → IsComplete s.slots (held_by (worker_at s w))
    → (t : ℕ) → t < length s.home → decoded s.kind (slice_index s.home t) (slice_index s.cells t) ≡ folded s.kind t (slice_index s.home t) s.slots
