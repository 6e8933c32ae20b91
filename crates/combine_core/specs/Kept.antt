-- What holds of the machine in every state that it can come to.
use Rattle.std.specs.Prelude.{◌≡◌, ℕ, zero, suc, Bool, false, ◌+◌, ◌-◌, ◌*◌, ◌/◌, ◌%◌, ◌^◌, ◌<◌, ◌≤◌, min, nat_lt, List, length, slice_index, sum_by, Option}
use Rattle.combine_core.specs.declared.message.Message.{Message}
use Rattle.combine_core.specs.Encodings.{encoded_home}
use Rattle.combine_core.specs.Cells.{gathered, RisesFrom, TargetsBelow}
use Rattle.combine_core.specs.Machine.{State, claims_of, worker_at, spent, weigh}

-- the sum of f over the numbers below n
abbrev pub sum_below : ℕ → (ℕ → ℕ) → ℕ
sum_below zero f = 0
sum_below (suc n) f = sum_below n f + f n

-- slot i is passed, where so many slots are passed in each claim
abbrev pub is_passed : (ℕ → ℕ) → ℕ → Bool
is_passed passed i = nat_lt (i % 512) (passed (i / 512))

-- what is asked of slots and home values
pub record IsSetting (os : List (Option Message)) (home : List ℕ) : Type 0 where
  pub rises : RisesFrom 0 os
  pub targets : TargetsBelow (length home) os
  pub words : (t : ℕ) → slice_index home t < 2 ^ 32
  pub few_slots : length os < 2 ^ 32 - 1
  pub few_cells : length home < 2 ^ 32 - 1

-- Each claim below the next number is held once, with so many slots passed, and no other is. Draws are misses, claims or left. Each cell is its home word joined with the messages of the passed slots
pub record Kept (s : State) : Type 0 where
  pub setting : IsSetting s.slots s.home
  pub passed : ℕ → ℕ
  pub wide : length s.cells ≡ length s.home
  pub holders : (g : ℕ → ℕ → ℕ) → sum_by (weigh g) s.workers ≡ sum_below (min s.next (claims_of s.slots)) (λ c. g c (passed c))
  pub unheld : (c : ℕ) → s.next ≤ c → passed c ≡ 0
  pub within : (c : ℕ) → c < claims_of s.slots → (passed c ≤ 512) × (512 * c + passed c ≤ length s.slots)
  pub missed : sum_by (λ v. v.misses) s.workers + min s.next (claims_of s.slots) ≡ s.next
  pub drawn : sum_by (λ v. v.draws) s.workers + s.next ≡ 2 ^ 63
  pub gone : (w : ℕ) → (worker_at s w).live ≡ false → worker_at s w ≡ spent
  pub cells : (t : ℕ) → t < length s.home → slice_index s.cells t ≡ gathered s.kind (is_passed passed) t 0 (encoded_home s.kind (slice_index s.home t)) s.slots
