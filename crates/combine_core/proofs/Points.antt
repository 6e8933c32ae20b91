-- Each point, of a state of which the invariant holds.
use Rattle.std.proofs.Common.{◌≡◌, ◌≢◌, ℕ, ◌+◌, ◌*◌, ◌/◌, ◌%◌, ◌<◌, ◌≤◌, min, Bool, true, false, ◌==◌, ◌&&◌, cond, if◌then◌else◌, nat_lt, List, [], ◌∷◌, ◌++◌, length, get_or, set, slice_get, slice_index, sum_by, Any, Contains, option_to_list, Option, Some, None, IfSome, refl, sym, ap, ◌∙◌, ⊎_elim, subst, zero-add, arith}
use Rattle.std.proofs.lemmas.List.Sums.{sum_by-set, sum_by-cons}
use Rattle.std.proofs.lemmas.Bool.{cases_lt, cases_eq, cases_Bool, cond-true, cond-false, lt-ltb, le-ltb, eq-eqb, ne_eqb}
use Rattle.std.proofs.lemmas.Option.{slice_get_within}
use Rattle.combine_core.specs.declared.message.Message.{Message}
use Rattle.combine_core.specs.declared.worker.Held.{Held}
use Rattle.combine_core.specs.declared.worker.Worker.{Worker}
use Rattle.combine_core.specs.Encodings.{encoded_home, decoded}
use Rattle.combine_core.specs.Cells.{gathered}
use Rattle.combine_core.specs.Machine.{State, claims_of, held_by, spent, worker_at, weigh, covers, is_delivered, IsComplete}
use Rattle.combine_core.specs.Kept.{Kept, is_passed}
use Rattle.combine_core.specs.Points.{CellsAreJoined, HeldOnce, HeldInRange, LastIsHeld, PassedInClaim, NoneLeftOut, NumbersCount, MissesArePast, DrawsCount, WholeHoldsAll, CompleteIsFolded}
use Rattle.combine_core.proofs.Sums.{sum_below-zero, sum_below-one, sum_below-ones, sum_by-mono, sum_by-same, some_part, get_or-past}
use Rattle.combine_core.proofs.Gathers.{gathered_same}
use Rattle.combine_core.proofs.Ahead.{next_in_none}
use Rattle.combine_core.proofs.Folds.{decoded_folded}
use Rattle.combine_core.proofs.Steps.{held_in_range, held_passed, read_default}

-- ---- cells

covers_here : (i p : ℕ) → covers i (i / 512) p ≡ (if nat_lt (i % 512) p then 1 else 0)
covers_here i p = ap (λ (b : Bool). if b && nat_lt (i % 512) p then 1 else 0) (eq-eqb (i / 512) (i / 512) refl)

covers_else : (i c p : ℕ) → c ≢ i / 512 → covers i c p ≡ 0
covers_else i c p apart = ap (λ (b : Bool). if b && nat_lt (i % 512) p then 1 else 0) (ne_eqb c (i / 512) apart)

positive : (b : Bool) → nat_lt 0 (if b then 1 else 0) ≡ b
positive true = refl
positive false = refl

pub delivered_is : (s : State) (k : Kept s) (i : ℕ) → i < length s.slots → is_delivered s i ≡ is_passed k.passed i
delivered_is s k i within =
    let n : ℕ = min s.next (claims_of s.slots) in
    let f : ℕ → ℕ = λ c. covers i c (k.passed c) in
    ⊎_elim
    (λ (b : i / 512 < n).
    ap (nat_lt 0) (k.holders (covers i) ∙ sum_below-one n (i / 512) f b (λ j apart. covers_else i j (k.passed j) apart) ∙ covers_here i (k.passed (i / 512)))
    ∙ positive (nat_lt (i % 512) (k.passed (i / 512))))
    (λ (b : n ≤ i / 512).
    let past : k.passed (i / 512) ≡ 0 = k.unheld (i / 512) (omega arith) in
    ap (nat_lt 0) (k.holders (covers i) ∙ sum_below-zero n f (λ c below. covers_else i c (k.passed c) (λ e. omega arith)))
    ∙ sym (le-ltb (i % 512) (k.passed (i / 512)) (omega arith)))
    (cases_lt (i / 512) n)

pub cells_are_joined : (s : State) → Kept s → CellsAreJoined s
cells_are_joined s k t below =
    k.cells t below
    ∙ gathered_same s.kind (is_passed k.passed) (is_delivered s) t 0 (encoded_home s.kind (slice_index s.home t)) s.slots
    (λ j m there. subst (λ (n : ℕ). is_passed k.passed n ≡ is_delivered s n) (sym (zero-add j)) (sym (delivered_is s k j (slice_get_within s.slots j (Some m) there))))

-- ---- claims

abbrev one_at : ℕ → ℕ → ℕ → ℕ
one_at c j p = cond (j == c) 1 0

one_at_here : (c p : ℕ) → one_at c c p ≡ 1
one_at_here c p = cond-true (c == c) 1 0 (eq-eqb c c refl)

one_at_else : (c j p : ℕ) → j ≢ c → one_at c j p ≡ 0
one_at_else c j p apart = cond-false (j == c) 1 0 (ne_eqb j c apart)

from_one_at : (c j p : ℕ) → 0 < one_at c j p → j ≡ c
from_one_at c j p h = ⊎_elim (λ (e : j ≡ c). e) (λ (ne : j ≡ c → ⊥). absurd (let z = one_at_else c j p ne in omega arith)) (cases_eq j c)

at_most_one : (b : Bool) → cond b 1 0 ≤ 1
at_most_one true = omega arith
at_most_one false = omega arith

-- a claim that was drawn counts once, and another not at all
drawn_once : (s : State) (k : Kept s) (c : ℕ) → c < min s.next (claims_of s.slots) → sum_by (weigh (one_at c)) s.workers ≡ 1
drawn_once s k c h =
    k.holders (one_at c) ∙ sum_below-one (min s.next (claims_of s.slots)) c (λ j. one_at c j (k.passed j)) h (λ j apart. one_at_else c j (k.passed j) apart) ∙ one_at_here c (k.passed c)

pub held_once : (s : State) → Kept s → HeldOnce s
held_once s k c =
    ⊎_elim
    (λ (h : c < min s.next (claims_of s.slots)). let e = drawn_once s k c h in omega arith)
    (λ (h : min s.next (claims_of s.slots) ≤ c).
    let e : sum_by (weigh (one_at c)) s.workers ≡ 0 = k.holders (one_at c) ∙ sum_below-zero (min s.next (claims_of s.slots)) (λ j. one_at c j (k.passed j)) (λ j below. one_at_else c j (k.passed j) (λ q. omega arith)) in
    omega arith)
    (cases_lt c (min s.next (claims_of s.slots)))

pub held_range : (s : State) → Kept s → HeldInRange s
held_range s k w j d h = let r = held_in_range s k w j d h in (omega arith, omega arith)

last_in : (last : Option Held) (others : List Held) → IfSome last (λ h. Contains (option_to_list last ++ others) h)
last_in None others = tt
last_in (Some h) others = (0, omega arith, refl)

pub last_is_held : (s : State) → Kept s → LastIsHeld s
last_is_held s k w = last_in (worker_at s w).last (worker_at s w).others

pub passed_in_claim : (s : State) → Kept s → PassedInClaim s
passed_in_claim s k w j d h =
    let x : Held = get_or (held_by (worker_at s w)) j d in
    let r : x.claim < min s.next (claims_of s.slots) = held_in_range s k w j d h in
    let e : x.passed ≡ k.passed x.claim = held_passed s k w j d h in
    let z = k.within x.claim (omega arith) in
    let low : k.passed x.claim ≤ 512 = z.0 in
    let high : 512 * x.claim + k.passed x.claim ≤ length s.slots = z.1 in
    (omega arith, omega arith)

-- a worker with some weight of claim c holds it
some_claim : (c : ℕ) (v : Worker) → 0 < weigh (one_at c) v → Any (λ h. h.claim ≡ c) (held_by v)
some_claim c v h =
    let r = some_part (λ (x : Held). one_at c x.claim x.passed) (held_by v) h in
    (r.0, r.1, r.2, r.3, from_one_at c r.1.claim r.1.passed r.4)

pub none_left_out : (s : State) → Kept s → NoneLeftOut s
none_left_out s k c drawn claim =
    let r = some_part (weigh (one_at c)) s.workers (let e = drawn_once s k c (omega arith) in omega arith) in
    let w : ℕ = r.0 in
    let here : worker_at s w ≡ r.1 = read_default s.workers w r.1 spent r.2 (sym r.3) in
    let some : 0 < weigh (one_at c) (worker_at s w) = subst (λ (v : Worker). 0 < weigh (one_at c) v) (sym here) r.4 in
    ⊎_elim
    (λ (live : (worker_at s w).live ≡ true). (w, live, some_claim c (worker_at s w) some))
    (λ (dead : (worker_at s w).live ≡ false). absurd (let z : weigh (one_at c) (worker_at s w) ≡ 0 = ap (weigh (one_at c)) (k.gone w dead) in omega arith))
    (cases_Bool (worker_at s w).live)

-- ---- numbers, misses and draws

sum_ones : {X : Type 0} (xs : List X) → sum_by (λ x. 1) xs ≡ length xs
sum_ones [] = refl
sum_ones (x ∷ xs) = let r = sum_ones xs in omega (arith, sum_by-cons (λ x. 1) x xs)

pub claims_held : (s : State) (k : Kept s) → sum_by (λ v. length (held_by v)) s.workers ≡ min s.next (claims_of s.slots)
claims_held s k =
    sum_by-same (λ v. length (held_by v)) (weigh (λ c p. 1)) s.workers (λ v. sym (sum_ones (held_by v)))
    ∙ k.holders (λ c p. 1) ∙ sum_below-ones (min s.next (claims_of s.slots))

pub numbers_count : (s : State) → Kept s → NumbersCount s
numbers_count s k = let a = claims_held s k in let b = k.missed in omega arith

pub misses_are_past : (s : State) → Kept s → MissesArePast s
misses_are_past s k some = let b = k.missed in omega arith

pub draws_count : (s : State) → Kept s → DrawsCount s
draws_count s k = let b = k.drawn in omega arith

weigh_one : (c : ℕ) (v : Worker) → weigh (one_at c) v ≤ length (held_by v)
weigh_one c v = let m = sum_by-mono (λ (x : Held). one_at c x.claim x.passed) (λ x. 1) (held_by v) (λ x. at_most_one (x.claim == c)) in let e = sum_ones (held_by v) in omega arith

pub whole_holds_all : (s : State) → Kept s → WholeHoldsAll s
whole_holds_all s k w whole missed c claim =
    let v : Worker = worker_at s w in
    let here : w < length s.workers = ⊎_elim (λ (b : w < length s.workers). b) (λ (b : length s.workers ≤ w). absurd (let z : (worker_at s w).misses ≡ 0 = ap (λ (x : Worker). x.misses) (get_or-past s.workers w spent b) in omega arith)) (cases_lt w (length s.workers)) in
    let rest : List Worker = set s.workers w spent in
    let held_all = claims_held s k in
    let a = sum_by-set (λ (x : Worker). length (held_by x)) s.workers w spent spent here in
    let b = sum_by-set (λ (x : Worker). x.misses) s.workers w spent spent here in
    let d = sum_by-set (λ (x : Worker). x.draws) s.workers w spent spent here in
    let m = k.missed in
    let n = k.drawn in
    let none : sum_by (λ v. length (held_by v)) (set s.workers w spent) ≡ 0 = omega arith in
    let past : claims_of s.slots < s.next = omega arith in
    let all = drawn_once s k c (omega arith) in
    let e = sum_by-set (weigh (one_at c)) s.workers w spent spent here in
    let f = sum_by-mono (weigh (one_at c)) (λ v. length (held_by v)) (set s.workers w spent) (weigh_one c) in
    let g : weigh (one_at c) spent ≡ 0 = refl in
    some_claim c (worker_at s w) (omega arith)

-- ---- complete

-- a slot with a message is passed where its claim is held with all messages delivered
message_passed : (s : State) (k : Kept s) (w : ℕ) → IsComplete s.slots (held_by (worker_at s w)) → (i : ℕ) (m : Message) → slice_get s.slots i ≡ Some (Some m) → is_passed k.passed i ≡ true
message_passed s k w complete i m there =
    let inside : i < length s.slots = slice_get_within s.slots i (Some m) there in
    let r = complete (i / 512) (omega arith) in
    let h : Held = r.1 in
    let is : get_or (held_by (worker_at s w)) r.0 h ≡ h = r.3 in
    let of : h.claim ≡ i / 512 = r.4.0 in
    let passed : h.passed ≡ k.passed h.claim = subst (λ (x : Held). x.passed ≡ k.passed x.claim) is (held_passed s k w r.0 h r.2) in
    let small : h.passed ≤ 512 = subst (λ (x : Held). x.passed ≤ 512) is (passed_in_claim s k w r.0 h r.2).0 in
    let at : k.passed (i / 512) ≡ h.passed = ap k.passed (sym of) ∙ sym passed in
    lt-ltb (i % 512) (k.passed (i / 512))
    (⊎_elim
    (λ (b : i < 512 * h.claim + h.passed). omega arith)
    (λ (b : 512 * h.claim + h.passed ≤ i). absurd (next_in_none s.slots h.claim h.passed small r.4.1 i m b (omega arith) there))
    (cases_lt i (512 * h.claim + h.passed)))

pub complete_cell : (s : State) (k : Kept s) (w : ℕ) → IsComplete s.slots (held_by (worker_at s w)) → (t : ℕ) → t < length s.home → slice_index s.cells t ≡ gathered s.kind (λ _. true) t 0 (encoded_home s.kind (slice_index s.home t)) s.slots
complete_cell s k w complete t below =
    k.cells t below
    ∙ gathered_same s.kind (is_passed k.passed) (λ _. true) t 0 (encoded_home s.kind (slice_index s.home t)) s.slots
    (λ j m there. subst (λ (n : ℕ). is_passed k.passed n ≡ true) (sym (zero-add j)) (message_passed s k w complete j m there))

pub complete_is_folded : (s : State) → Kept s → CompleteIsFolded s
complete_is_folded s k w complete t below =
    ap (decoded s.kind (slice_index s.home t)) (complete_cell s k w complete t below)
    ∙ decoded_folded s.kind t (slice_index s.home t) s.slots (k.setting.words t) k.setting.rises
