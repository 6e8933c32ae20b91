-- Each event keeps what holds of the machine.
use Rattle.std.proofs.Common.{◌≡◌, ◌≢◌, ◌⊎◌, ℕ, zero, suc, ◌+◌, ◌-◌, ◌*◌, ◌/◌, ◌%◌, ◌^◌, ◌<◌, ◌≤◌, min, Bool, true, false, true≢false, not, ◌==◌, ◌&&◌, if◌then◌else◌, nat_lt, List, [], ◌∷◌, ◌++◌, length, map, get_or, set, slice_get, slice_index, sum_by, option_to_list, option_map, Option, Some, None, IfSome, Result, Ok, Err, OnOk, OnErr, refl, sym, ap, ap₂, ◌∙◌, inl, inr, ⊎_elim, subst, length-set, get_or-set_other, get_or-set_same, zero-add, arith}
use Rattle.std.proofs.lemmas.List.Sums.{sum_by-set, sum_by_push, sum_by-cons, get_or-le-sum_by}
use Rattle.std.proofs.lemmas.Bool.{cases_lt, cases_eq, cond-true, cond-false, ltb-true, lt-ltb, le-ltb, eqb-true, eq-eqb, ne_eqb, false≢true, cond_both, and_parts, not-true}
use Rattle.std.proofs.lemmas.Option.{get_or_from_slice_get, slice_get_within, option_and_then_some}
use Rattle.std.proofs.lemmas.List.{length-map}
use Rattle.std.proofs.Math.Nat.{zero-min}
use Rattle.combine_core.specs.declared.kind.Kind.{Kind}
use Rattle.combine_core.specs.declared.message.Message.{Message}
use Rattle.combine_core.specs.declared.worker.Held.{Held}
use Rattle.combine_core.specs.declared.worker.Worker.{Worker}
use Rattle.combine_core.specs.declared.event.Event.{Event}
use Rattle.combine_core.specs.declared.event.Event.TheVariants.{Split, Claim, Deliver, Join}
use Rattle.combine_core.specs.Encodings.{encoded_home, joined}
use Rattle.combine_core.specs.Cells.{gathered, message_word}
use Rattle.combine_core.specs.Machine.{State, claims_of, held, held_by, idle, spent, worker_at, next_in, ahead_of, is_number, kept_part, given_part, drawn, passed_to, delivered, both_parts, split, claim, deliver, join, weigh, opening, can_happen, happens, after, run}
use Rattle.combine_core.specs.Kept.{Kept, IsSetting, sum_below, is_passed}
use Rattle.combine_core.proofs.Sums.{sum_below-zero, sum_below-change, each_set, each_push, get_or-past, weigh-both, unless, unless_zero}
use Rattle.combine_core.proofs.Gathers.{gathered_more, gathered_none, with_message}
use Rattle.combine_core.proofs.Ahead.{IsNext, next_in_some}

-- a live worker was made
pub made : (ws : List Worker) (w : ℕ) → (get_or ws w spent).live ≡ true → w < length ws
made [] w h = absurd (false≢true h)
made (v ∷ ws) zero h = omega arith
made (v ∷ ws) (suc w) h = let r = made ws w h in omega arith

-- only what is live, or spent, is among the workers
abbrev IsGone : Worker → Type 0
IsGone v = v.live ≡ false → v ≡ spent

lives : (v : Worker) → v.live ≡ true → IsGone v
lives v l g = absurd (false≢true (sym g ∙ l))

-- a weight that is 0 of each claim below n with its passed slots, and there no others are held, is 0 of each held claim
pub weightless : (s : State) (k : Kept s) (g : ℕ → ℕ → ℕ) → ((c : ℕ) → c < min s.next (claims_of s.slots) → g c (k.passed c) ≡ 0) → (w j : ℕ) (d : Held) → j < length (held_by (worker_at s w)) → g (get_or (held_by (worker_at s w)) j d).claim (get_or (held_by (worker_at s w)) j d).passed ≡ 0
weightless s k g zeros w j d h =
    ⊎_elim
    (λ (b : w < length s.workers).
    let total = k.holders g in
    let none = sum_below-zero (min s.next (claims_of s.slots)) (λ c. g c (k.passed c)) zeros in
    let part = get_or-le-sum_by (weigh g) s.workers w spent b in
    let one = get_or-le-sum_by (λ (x : Held). g x.claim x.passed) (held_by (worker_at s w)) j d h in
    omega arith)
    (λ (b : length s.workers ≤ w).
    let past : worker_at s w ≡ spent = get_or-past s.workers w spent b in
    absurd (let len : length (held_by (worker_at s w)) ≡ 0 = ap (λ (v : Worker). length (held_by v)) past in omega arith))
    (cases_lt w (length s.workers))

-- a held claim is below the next number and below the count of claims, and its passed slots are the ones that count
pub held_in_range : (s : State) (k : Kept s) (w j : ℕ) (d : Held) → j < length (held_by (worker_at s w)) → (get_or (held_by (worker_at s w)) j d).claim < min s.next (claims_of s.slots)
held_in_range s k w j d h =
    let n : ℕ = min s.next (claims_of s.slots) in
    ltb-true (get_or (held_by (worker_at s w)) j d).claim n
    (unless_zero _ (weightless s k (λ c p. unless (nat_lt c n)) (λ c b. ap unless (lt-ltb c n b)) w j d h))

pub held_passed : (s : State) (k : Kept s) (w j : ℕ) (d : Held) → j < length (held_by (worker_at s w)) → (get_or (held_by (worker_at s w)) j d).passed ≡ k.passed (get_or (held_by (worker_at s w)) j d).claim
held_passed s k w j d h =
    eqb-true (get_or (held_by (worker_at s w)) j d).passed (k.passed (get_or (held_by (worker_at s w)) j d).claim)
    (unless_zero _ (weightless s k (λ c p. unless (p == k.passed c)) (λ c b. ap unless (eq-eqb (k.passed c) (k.passed c) refl)) w j d h))

-- ---- split

pub split_keeps : (s : State) (w : ℕ) → (worker_at s w).live ≡ true → Kept s → Kept (split s w)
split_keeps s w live k =
    let v : Worker = worker_at s w in
    let here : w < length s.workers = made s.workers w live in
    record {
      setting = k.setting;
      passed = k.passed;
      wide = k.wide;
      holders = λ g.
          let a = sum_by_push (weigh g) (set s.workers w (kept_part v)) (given_part v) in
          let b = sum_by-set (weigh g) s.workers w (kept_part v) spent here in
          let c = k.holders g in
          let same : weigh g (kept_part v) ≡ weigh g v = refl in
          let none : weigh g (given_part v) ≡ 0 = refl in
          omega arith;
      unheld = k.unheld;
      within = k.within;
      missed =
          let a = sum_by_push (λ (x : Worker). x.misses) (set s.workers w (kept_part v)) (given_part v) in
          let b = sum_by-set (λ (x : Worker). x.misses) s.workers w (kept_part v) spent here in
          let c = k.missed in
          omega arith;
      drawn =
          let a = sum_by_push (λ (x : Worker). x.draws) (set s.workers w (kept_part v)) (given_part v) in
          let b = sum_by-set (λ (x : Worker). x.draws) s.workers w (kept_part v) spent here in
          let c = k.drawn in
          omega arith;
      gone = each_push IsGone (set s.workers w (kept_part v)) (given_part v) spent (lives (given_part v) refl) (each_set IsGone s.workers w (kept_part v) spent (lives (kept_part v) live) k.gone);
      cells = k.cells;
    }

-- ---- claim

-- the worker after it drew a claim, and after it drew none
abbrev pub with_claim : ℕ → Worker → Worker
with_claim n v = record { live = v.live; last = Some (held n 0); others = held_by v; number = Some n; misses = v.misses; draws = v.draws - 1 }

abbrev pub with_miss : ℕ → Worker → Worker
with_miss n v = record { live = v.live; last = v.last; others = v.others; number = Some n; misses = v.misses + 1; draws = v.draws - 1 }

abbrev drawn_state : State → ℕ → Worker → State
drawn_state s w y = record { kind = s.kind; slots = s.slots; home = s.home; next = s.next + 1; cells = s.cells; workers = set s.workers w y }

claim_taken : (s : State) (w : ℕ) → (worker_at s w).live ≡ true → 0 < (worker_at s w).draws → s.next < claims_of s.slots → Kept s → Kept (drawn_state s w (with_claim s.next (worker_at s w)))
claim_taken s w live some_left is_claim k =
    let v : Worker = worker_at s w in
    let y : Worker = with_claim s.next v in
    let here : w < length s.workers = made s.workers w live in
    let lows : min s.next (claims_of s.slots) ≡ s.next = omega arith in
    let highs : min (s.next + 1) (claims_of s.slots) ≡ suc s.next = omega arith in
    record {
      setting = k.setting;
      passed = k.passed;
      wide = k.wide;
      holders = λ g.
          let f : ℕ → ℕ = λ c. g c (k.passed c) in
          let a = sum_by-set (weigh g) s.workers w y spent here in
          let c = k.holders g in
          let low : sum_below (min s.next (claims_of s.slots)) f ≡ sum_below s.next f = ap (λ n. sum_below n f) lows in
          let high : sum_below (min (s.next + 1) (claims_of s.slots)) f ≡ sum_below s.next f + f s.next = ap (λ n. sum_below n f) highs in
          let new : f s.next ≡ g s.next 0 = ap (g s.next) (k.unheld s.next (omega arith)) in
          let more : weigh g y ≡ g s.next 0 + weigh g v = sum_by-cons (λ (x : Held). g x.claim x.passed) (held s.next 0) (held_by v) in
          omega arith;
      unheld = λ c h. k.unheld c (omega arith);
      within = k.within;
      missed =
          let a = sum_by-set (λ (x : Worker). x.misses) s.workers w y spent here in
          let c = k.missed in
          omega arith;
      drawn =
          let a = sum_by-set (λ (x : Worker). x.draws) s.workers w y spent here in
          let c = k.drawn in
          omega arith;
      gone = each_set IsGone s.workers w y spent (lives y live) k.gone;
      cells = k.cells;
    }

claim_missed : (s : State) (w : ℕ) → (worker_at s w).live ≡ true → 0 < (worker_at s w).draws → claims_of s.slots ≤ s.next → Kept s → Kept (drawn_state s w (with_miss s.next (worker_at s w)))
claim_missed s w live some_left no_claim k =
    let v : Worker = worker_at s w in
    let y : Worker = with_miss s.next v in
    let here : w < length s.workers = made s.workers w live in
    let same : min (s.next + 1) (claims_of s.slots) ≡ min s.next (claims_of s.slots) = omega arith in
    record {
      setting = k.setting;
      passed = k.passed;
      wide = k.wide;
      holders = λ g.
          let a = sum_by-set (weigh g) s.workers w y spent here in
          let c = k.holders g in
          let low : sum_below (min (s.next + 1) (claims_of s.slots)) (λ c. g c (k.passed c)) ≡ sum_below (min s.next (claims_of s.slots)) (λ c. g c (k.passed c)) = ap (λ n. sum_below n (λ c. g c (k.passed c))) same in
          let as_before : weigh g y ≡ weigh g v = refl in
          omega arith;
      unheld = λ c h. k.unheld c (omega arith);
      within = k.within;
      missed =
          let a = sum_by-set (λ (x : Worker). x.misses) s.workers w y spent here in
          let c = k.missed in
          omega arith;
      drawn =
          let a = sum_by-set (λ (x : Worker). x.draws) s.workers w y spent here in
          let c = k.drawn in
          omega arith;
      gone = each_set IsGone s.workers w y spent (lives y live) k.gone;
      cells = k.cells;
    }

pub claim_keeps : (s : State) (w : ℕ) → (worker_at s w).live ≡ true → 0 < (worker_at s w).draws → Kept s → Kept (claim s w)
claim_keeps s w live some_left k =
    ⊎_elim
    (λ (b : s.next < claims_of s.slots).
    let e : with_claim s.next (worker_at s w) ≡ drawn (claims_of s.slots) s.next (worker_at s w) = sym (cond-true (nat_lt s.next (claims_of s.slots)) _ _ (lt-ltb s.next (claims_of s.slots) b)) in
    subst (λ (y : Worker). Kept (drawn_state s w y)) e (claim_taken s w live some_left b k))
    (λ (b : claims_of s.slots ≤ s.next).
    let e : with_miss s.next (worker_at s w) ≡ drawn (claims_of s.slots) s.next (worker_at s w) = sym (cond-false (nat_lt s.next (claims_of s.slots)) _ _ (le-ltb s.next (claims_of s.slots) b)) in
    subst (λ (y : Worker). Kept (drawn_state s w y)) e (claim_missed s w live some_left b k))
    (cases_lt s.next (claims_of s.slots))

-- ---- join

pub join_keeps : (s : State) (a b : ℕ) → (worker_at s a).live ≡ true → (worker_at s b).live ≡ true → a ≢ b → Kept s → Kept (join s a b)
join_keeps s a b live other_live apart k =
    let v : Worker = worker_at s a in
    let u : Worker = worker_at s b in
    let y : Worker = both_parts v u in
    let ws : List Worker = set s.workers a y in
    let here : a < length s.workers = made s.workers a live in
    let there : b < length ws = (let m : b < length s.workers = made s.workers b other_live in omega (arith, length-set s.workers a y)) in
    let still : get_or ws b spent ≡ u = get_or-set_other s.workers a b y spent (λ e. apart (sym e)) in
    record {
      setting = k.setting;
      passed = k.passed;
      wide = k.wide;
      holders = λ g.
          let p = sum_by-set (weigh g) s.workers a y spent here in
          let q = sum_by-set (weigh g) ws b spent spent there in
          let c = k.holders g in
          let r : weigh g (get_or ws b spent) ≡ weigh g u = ap (weigh g) still in
          let both = weigh-both g v u in
          let none : weigh g spent ≡ 0 = refl in
          omega arith;
      unheld = k.unheld;
      within = k.within;
      missed =
          let p = sum_by-set (λ (x : Worker). x.misses) s.workers a y spent here in
          let q = sum_by-set (λ (x : Worker). x.misses) ws b spent spent there in
          let c = k.missed in
          let r : (get_or ws b spent).misses ≡ u.misses = ap (λ (x : Worker). x.misses) still in
          omega arith;
      drawn =
          let p = sum_by-set (λ (x : Worker). x.draws) s.workers a y spent here in
          let q = sum_by-set (λ (x : Worker). x.draws) ws b spent spent there in
          let c = k.drawn in
          let r : (get_or ws b spent).draws ≡ u.draws = ap (λ (x : Worker). x.draws) still in
          omega arith;
      gone = each_set IsGone ws b spent spent (λ _. refl) (each_set IsGone s.workers a y spent (lives y live) k.gone);
      cells = k.cells;
    }

-- ---- deliver

-- how many slots of each claim are passed, after slot i of claim c
abbrev pub passed_with : (ℕ → ℕ) → ℕ → ℕ → ℕ → ℕ
passed_with passed c i j = if j == c then i + 1 - 512 * c else passed j

passed_here : (passed : ℕ → ℕ) (c i : ℕ) → passed_with passed c i c ≡ i + 1 - 512 * c
passed_here passed c i = cond-true (c == c) _ _ (eq-eqb c c refl)

passed_else : (passed : ℕ → ℕ) (c i j : ℕ) → j ≢ c → passed_with passed c i j ≡ passed j
passed_else passed c i j apart = cond-false (j == c) _ _ (ne_eqb j c apart)

-- the cell of each target after one message
delivered_cell : (k : Kind) (cells : List ℕ) (m : Message) (t : ℕ) → m.target < length cells → slice_index (set cells m.target (joined k (slice_index cells m.target) (message_word k m))) t ≡ with_message k t (slice_index cells t) m
delivered_cell k cells m t h =
    ⊎_elim
    (λ (e : m.target ≡ t).
    subst (λ (q : ℕ). slice_index (set cells m.target (joined k (slice_index cells m.target) (message_word k m))) q ≡ with_message k q (slice_index cells q) m) e
    (get_or-set_same cells m.target _ 0 h ∙ sym (cond-true (m.target == m.target) _ _ (eq-eqb m.target m.target refl))))
    (λ (ne : m.target ≡ t → ⊥). get_or-set_other cells m.target t _ 0 (λ e. ne (sym e)) ∙ sym (cond-false (m.target == t) _ _ (ne_eqb m.target t ne)))
    (cases_eq m.target t)

weigh_last : (g : ℕ → ℕ → ℕ) (last : Option Held) (others : List Held) (h : Held) → last ≡ Some h → sum_by (λ (x : Held). g x.claim x.passed) (option_to_list last ++ others) ≡ g h.claim h.passed + sum_by (λ (x : Held). g x.claim x.passed) others
weigh_last g last others h e =
    ap (λ (o : Option Held). sum_by (λ (x : Held). g x.claim x.passed) (option_to_list o ++ others)) e ∙ sum_by-cons (λ (x : Held). g x.claim x.passed) h others

-- a slot of claim c that is passed before slot i, or stands behind it, is picked as before
same_pick : (passed : ℕ → ℕ) (c p i n : ℕ) → passed c ≡ p → n / 512 ≡ c → 512 * c + p ≤ i → i < 512 * c + 512 → (n < 512 * c + p) ⊎ (i < n) → is_passed passed n ≡ is_passed (passed_with passed c i) n
same_pick passed c p i n was of_c behind within place =
    let old : passed (n / 512) ≡ p = ap passed of_c ∙ was in
    let new : passed_with passed c i (n / 512) ≡ i + 1 - 512 * c = ap (passed_with passed c i) of_c ∙ passed_here passed c i in
    ⊎_elim
    (λ (b : n < 512 * c + p).
    lt-ltb (n % 512) (passed (n / 512)) (omega arith) ∙ sym (lt-ltb (n % 512) (passed_with passed c i (n / 512)) (omega arith)))
    (λ (b : i < n).
    le-ltb (n % 512) (passed (n / 512)) (omega arith) ∙ sym (le-ltb (n % 512) (passed_with passed c i (n / 512)) (omega arith)))
    place

-- the picks before and after the message of slot i is delivered
other_pick : (passed : ℕ → ℕ) (os : List (Option Message)) (c p i : ℕ) → passed c ≡ p → IsNext os c p i → (n : ℕ) (x : Message) → n ≢ i → slice_get os n ≡ Some (Some x) → is_passed passed n ≡ is_passed (passed_with passed c i) n
other_pick passed os c p i was r n x apart there =
    ⊎_elim
    (λ (e : n / 512 ≡ c).
    same_pick passed c p i n was e r.behind r.within
    (⊎_elim
    (λ (b : n < 512 * c + p). inl b)
    (λ (b : 512 * c + p ≤ n). ⊎_elim (λ (a : n < i). absurd (r.none_before n x b a there)) (λ (a : i ≤ n). inr (⊎_elim (λ (z : n ≡ i). absurd (apart z)) (λ (z : n ≡ i → ⊥). omega arith) (cases_eq n i))) (cases_lt n i))
    (cases_lt n (512 * c + p))))
    (λ (ne : n / 512 ≡ c → ⊥). ap (nat_lt (n % 512)) (sym (passed_else passed c i (n / 512) ne)))
    (cases_eq (n / 512) c)

gathered_next : (k : Kind) (passed : ℕ → ℕ) (os : List (Option Message)) (c p i t a : ℕ) → passed c ≡ p → (r : IsNext os c p i) → gathered k (is_passed (passed_with passed c i)) t 0 a os ≡ with_message k t (gathered k (is_passed passed) t 0 a os) r.message
gathered_next k passed os c p i t a was r =
    let behind : 512 * c + p ≤ i = r.behind in
    let within : i < 512 * c + 512 = r.within in
    let of_c : i / 512 ≡ c = omega arith in
    let old : passed (i / 512) ≡ p = ap passed of_c ∙ was in
    let new : passed_with passed c i (i / 512) ≡ i + 1 - 512 * c = ap (passed_with passed c i) of_c ∙ passed_here passed c i in
    gathered_more k (is_passed passed) (is_passed (passed_with passed c i)) t 0 a os i r.message r.there
    (subst (λ (n : ℕ). is_passed passed n ≡ false) (sym (zero-add i)) (le-ltb (i % 512) (passed (i / 512)) (omega arith)))
    (subst (λ (n : ℕ). is_passed (passed_with passed c i) n ≡ true) (sym (zero-add i)) (lt-ltb (i % 512) (passed_with passed c i (i / 512)) (omega arith)))
    (λ n x apart there. subst (λ (q : ℕ). is_passed passed q ≡ is_passed (passed_with passed c i) q) (sym (zero-add n)) (other_pick passed os c p i was r n x apart there))

-- the claim that a worker took last is one that it holds
pub last_range : (s : State) (k : Kept s) (w : ℕ) (h : Held) → (worker_at s w).last ≡ Some h → (h.claim < min s.next (claims_of s.slots)) × (h.passed ≡ k.passed h.claim)
last_range s k w h e =
    let v : Worker = worker_at s w in
    let first : get_or (held_by v) 0 h ≡ h = ap (λ (o : Option Held). get_or (option_to_list o ++ v.others) 0 h) e in
    let some : length (held_by v) ≡ suc (length v.others) = ap (λ (o : Option Held). length (option_to_list o ++ v.others)) e in
    let here : 0 < length (held_by v) = omega arith in (
      subst (λ (x : Held). x.claim < min s.next (claims_of s.slots)) first (held_in_range s k w 0 h here),
      subst (λ (x : Held). x.passed ≡ k.passed x.claim) first (held_passed s k w 0 h here),
    )

-- the passed slots of the last claim stand among its slots
pub last_small : (s : State) → Kept s → (w : ℕ) (h : Held) → (worker_at s w).last ≡ Some h → (h.passed ≤ 512) × (512 * h.claim + h.passed ≤ length s.slots)
last_small s k w h e =
    let range = last_range s k w h e in
    let b : h.claim < min s.next (claims_of s.slots) = range.0 in
    let q : h.passed ≡ k.passed h.claim = range.1 in
    let z = k.within h.claim (omega arith) in
    let low : k.passed h.claim ≤ 512 = z.0 in
    let high : 512 * h.claim + k.passed h.claim ≤ length s.slots = z.1 in
    (omega arith, omega arith)

abbrev delivered_state : State → ℕ → ℕ → Option Message → State
delivered_state s w i o = record { kind = s.kind; slots = s.slots; home = s.home; next = s.next; cells = delivered s.kind s.cells o; workers = set s.workers w (passed_to i (worker_at s w)) }

-- the target of a message is the number of a cell
pub target_within : (os : List (Option Message)) (home : List ℕ) → IsSetting os home → (i : ℕ) (m : Message) → slice_get os i ≡ Some (Some m) → m.target < length home
target_within os home a i m there =
    subst (λ (o : Option Message). IfSome o (λ (x : Message). x.target < length home)) (get_or_from_slice_get os i (Some m) None there) (a.targets i None (slice_get_within os i (Some m) there))

deliver_message : (s : State) (w : ℕ) (h : Held) (i : ℕ) → (worker_at s w).live ≡ true → (worker_at s w).last ≡ Some h → (k : Kept s) → (r : IsNext s.slots h.claim h.passed i) → Kept (delivered_state s w i (Some r.message))
deliver_message s w h i live is_last k r =
    let v : Worker = worker_at s w in
    let y : Worker = passed_to i v in
    let c : ℕ = h.claim in
    let p : ℕ = h.passed in
    let new : ℕ = i + 1 - 512 * h.claim in
    let m : Message = r.message in
    let here : w < length s.workers = made s.workers w live in
    let range = last_range s k w h is_last in
    let in_range : h.claim < min s.next (claims_of s.slots) = range.0 in
    let was : k.passed h.claim ≡ h.passed = sym range.1 in
    let behind : 512 * h.claim + h.passed ≤ i = r.behind in
    let before : i < 512 * h.claim + 512 = r.within in
    let slot_in : i < length s.slots = slice_get_within s.slots i (Some m) r.there in
    let target_in : m.target < length s.cells = (let a = target_within s.slots s.home k.setting i m r.there in let b = k.wide in omega arith) in
    let passed : ℕ → ℕ = passed_with k.passed h.claim i in
    let now_here : passed_with k.passed h.claim i h.claim ≡ i + 1 - 512 * h.claim = passed_here k.passed h.claim i in
    record {
      setting = k.setting;
      passed = passed;
      wide = length-set s.cells m.target _ ∙ k.wide;
      holders = λ g.
          let n : ℕ = min s.next (claims_of s.slots) in
          let a = sum_by-set (weigh g) s.workers w y spent here in
          let b = k.holders g in
          let old : weigh g v ≡ g h.claim h.passed + sum_by (λ (x : Held). g x.claim x.passed) v.others = weigh_last g v.last v.others h is_last in
          let now : weigh g y ≡ g h.claim (i + 1 - 512 * h.claim) + sum_by (λ (x : Held). g x.claim x.passed) v.others = weigh_last g y.last v.others (held h.claim (i + 1 - 512 * h.claim)) (ap (option_map (λ (x : Held). held x.claim (i + 1 - 512 * x.claim))) is_last) in
          let change : sum_below (min s.next (claims_of s.slots)) (λ j. g j (passed_with k.passed h.claim i j)) + g h.claim (k.passed h.claim) ≡ sum_below (min s.next (claims_of s.slots)) (λ j. g j (k.passed j)) + g h.claim (passed_with k.passed h.claim i h.claim) = sum_below-change (min s.next (claims_of s.slots)) h.claim (λ j. g j (passed_with k.passed h.claim i j)) (λ j. g j (k.passed j)) in_range (λ j apart. ap (g j) (passed_else k.passed h.claim i j apart)) in
          let e : g h.claim (k.passed h.claim) ≡ g h.claim h.passed = ap (g h.claim) was in
          let f : g h.claim (passed_with k.passed h.claim i h.claim) ≡ g h.claim (i + 1 - 512 * h.claim) = ap (g h.claim) now_here in
          omega arith;
      unheld = λ j past. passed_else k.passed h.claim i j (λ e. omega arith) ∙ k.unheld j past;
      within = λ j below.
          ⊎_elim
          (λ (e : j ≡ h.claim).
          let q : passed_with k.passed h.claim i j ≡ i + 1 - 512 * h.claim = ap (passed_with k.passed h.claim i) e ∙ now_here in
          (omega arith, omega arith))
          (λ (ne : j ≡ h.claim → ⊥).
          let q : passed_with k.passed h.claim i j ≡ k.passed j = passed_else k.passed h.claim i j ne in
          let z = k.within j below in
          let low : k.passed j ≤ 512 = z.0 in
          let high : 512 * j + k.passed j ≤ length s.slots = z.1 in
          (omega arith, omega arith))
          (cases_eq j h.claim);
      missed =
          let a = sum_by-set (λ (x : Worker). x.misses) s.workers w y spent here in
          let b = k.missed in
          omega arith;
      drawn =
          let a = sum_by-set (λ (x : Worker). x.draws) s.workers w y spent here in
          let b = k.drawn in
          omega arith;
      gone = each_set IsGone s.workers w y spent (lives y live) k.gone;
      cells = λ t below.
          delivered_cell s.kind s.cells m t target_in
          ∙ ap (λ (x : ℕ). with_message s.kind t x m) (k.cells t below)
          ∙ sym (gathered_next s.kind k.passed s.slots h.claim h.passed i t (encoded_home s.kind (slice_index s.home t)) was r);
    }

pub is_the_number : (i : ℕ) (o : Option ℕ) → is_number i o ≡ true → o ≡ Some i
is_the_number i None e = absurd (false≢true e)
is_the_number i (Some j) e = ap Some (eqb-true j i e)

-- what a slot is that a worker may deliver
pub record CanDeliver (s : State) (w i : ℕ) : Type 0 where
  pub last : Held
  pub is_last : (worker_at s w).last ≡ Some last
  pub next : IsNext s.slots last.claim last.passed i

pub can_deliver : (s : State) (w i : ℕ) → Kept s → ahead_of s.slots (worker_at s w) ≡ Some i → CanDeliver s w i
can_deliver s w i k e =
    option_and_then_some (next_in s.slots) (worker_at s w).last i e
    (λ h is_last is_next.
    record { last = h; is_last = is_last; next = next_in_some s.slots h.claim h.passed i (last_small s k w h is_last).0 is_next })

pub deliver_keeps : (s : State) (w i : ℕ) → (worker_at s w).live ≡ true → ahead_of s.slots (worker_at s w) ≡ Some i → Kept s → Kept (deliver s w i)
deliver_keeps s w i live e k =
    let can = can_deliver s w i k e in
    subst (λ (o : Option Message). Kept (delivered_state s w i o)) (sym (get_or_from_slice_get s.slots i (Some can.next.message) None can.next.there))
    (deliver_message s w can.last i live can.is_last k can.next)

-- ---- every list of events

get_or-map : (f : ℕ → ℕ) (xs : List ℕ) (t : ℕ) → t < length xs → get_or (map f xs) t 0 ≡ f (get_or xs t 0)
get_or-map f [] t h = absurd (omega arith)
get_or-map f (x ∷ xs) zero h = refl
get_or-map f (x ∷ xs) (suc t) h = get_or-map f xs t (omega arith)

pub opening_kept : (k : Kind) (os : List (Option Message)) (home : List ℕ) → IsSetting os home → Kept (opening k os home)
opening_kept k os home a =
    record {
      setting = a;
      passed = λ _. 0;
      wide = length-map home (encoded_home k);
      holders = λ g. sym (ap (λ n. sum_below n (λ c. g c 0)) (zero-min (claims_of os)));
      unheld = λ c past. refl;
      within = λ c below. (omega arith, omega arith);
      missed = zero-add _ ∙ zero-min (claims_of os);
      drawn = refl;
      gone = first_gone;
      cells = λ t below.
          get_or-map (encoded_home k) home t below
          ∙ sym (gathered_none k (is_passed (λ _. 0)) t 0 (encoded_home k (slice_index home t)) os (λ j. le-ltb (j % 512) 0 (omega arith)));
    }
  where
    first_gone : (w : ℕ) → (get_or (idle true (2 ^ 63) ∷ []) w spent).live ≡ false → get_or (idle true (2 ^ 63) ∷ []) w spent ≡ spent
    first_gone zero e = absurd (true≢false e)
    first_gone (suc w) e = refl

happens_keeps : (s : State) (e : Event) → can_happen s e ≡ true → Kept s → Kept (happens s e)
happens_keeps s (Split w) can k = split_keeps s w can k
happens_keeps s (Claim w) can k =
    let c = and_parts (worker_at s w).live (nat_lt 0 (worker_at s w).draws) can in
    claim_keeps s w c.0 (ltb-true 0 (worker_at s w).draws c.1) k
happens_keeps s (Deliver w i) can k =
    let c = and_parts (worker_at s w).live (is_number i (ahead_of s.slots (worker_at s w))) can in
    deliver_keeps s w i c.0 (is_the_number i (ahead_of s.slots (worker_at s w)) c.1) k
happens_keeps s (Join a b) can k =
    let c = and_parts ((worker_at s a).live && (worker_at s b).live) (not (a == b)) can in
    let d = and_parts (worker_at s a).live (worker_at s b).live c.0 in
    join_keeps s a b d.0 d.1 (λ e. absurd (true≢false (sym (eq-eqb a b e) ∙ not-true (a == b) c.1))) k

pub after_keeps : (s : State) (e : Event) → Kept s → Kept (after s e)
after_keeps s e k = cond_both (can_happen s e) (happens s e) s Kept (λ can. happens_keeps s e can k) (λ _. k)

pub run_keeps : (es : List Event) (s : State) → Kept s → Kept (run es s)
run_keeps [] s k = k
run_keeps (e ∷ es) s k = run_keeps es (after s e) (after_keeps s e k)

-- ---- what the code writes in another order

pub set_swap : (ws : List Worker) (a b : ℕ) (x y : Worker) → a ≢ b → set (set ws b y) a x ≡ set (set ws a x) b y
set_swap [] a b x y apart = refl
set_swap (v ∷ ws) zero zero x y apart = absurd (apart refl)
set_swap (v ∷ ws) zero (suc b) x y apart = refl
set_swap (v ∷ ws) (suc a) zero x y apart = refl
set_swap (v ∷ ws) (suc a) (suc b) x y apart = ap (λ (us : List Worker). v ∷ us) (set_swap ws a b x y (λ e. apart (ap suc e)))

pub set_back : (ws : List Worker) (b : ℕ) (y : Worker) → set (set ws b y) b (get_or ws b spent) ≡ ws
set_back [] b y = refl
set_back (v ∷ ws) zero y = refl
set_back (v ∷ ws) (suc b) y = ap (λ (us : List Worker). v ∷ us) (set_back ws b y)

-- a worker set to what it is
set_same : (ws : List Worker) (a : ℕ) → set ws a (get_or ws a spent) ≡ ws
set_same [] a = refl
set_same (v ∷ ws) zero = refl
set_same (v ∷ ws) (suc a) = ap (λ (us : List Worker). v ∷ us) (set_same ws a)

-- one worker is changed and put back, and another set to what it is meanwhile
pub set_both_back : (ws : List Worker) (a b : ℕ) (x y u : Worker) → x ≡ get_or (set ws b y) a spent → u ≡ get_or ws b spent → set (set (set ws b y) a x) b u ≡ ws
set_both_back ws a b x y u is_x is_u =
    ap (λ (us : List Worker). set us b u) (ap (set (set ws b y) a) is_x ∙ set_same (set ws b y) a) ∙ ap (set (set ws b y) b) is_u ∙ set_back ws b y

-- what two workers have together fits
pub two_fit : (s : State) → Kept s → (a b : ℕ) → (worker_at s a).live ≡ true → (worker_at s b).live ≡ true → a ≢ b → ((worker_at s a).misses + (worker_at s b).misses ≤ 2 ^ 63) × ((worker_at s a).draws + (worker_at s b).draws ≤ 2 ^ 63)
two_fit s k a b live other_live apart =
    let j = join_keeps s a b live other_live apart k in
    let y : Worker = both_parts (worker_at s a) (worker_at s b) in
    let in_a : a < length (set (set s.workers a y) b spent) = (let m : a < length s.workers = made s.workers a live in omega (arith, length-set (set s.workers a y) b spent, length-set s.workers a y)) in
    let is : get_or (set (set s.workers a y) b spent) a spent ≡ y = get_or-set_other (set s.workers a y) b a spent spent apart ∙ get_or-set_same s.workers a y spent (made s.workers a live) in
    let p = get_or-le-sum_by (λ (x : Worker). x.misses) (set (set s.workers a y) b spent) a spent in_a in
    let q = get_or-le-sum_by (λ (x : Worker). x.draws) (set (set s.workers a y) b spent) a spent in_a in
    let m : (get_or (set (set s.workers a y) b spent) a spent).misses ≡ y.misses = ap (λ (x : Worker). x.misses) is in
    let d : (get_or (set (set s.workers a y) b spent) a spent).draws ≡ y.draws = ap (λ (x : Worker). x.draws) is in
    let r = j.missed in
    let t = j.drawn in
    (omega arith, omega arith)

-- an element read with itself for the default
pub read_default : {X : Type 0} (xs : List X) (i : ℕ) (x d : X) → i < length xs → x ≡ get_or xs i x → get_or xs i d ≡ x
read_default [] i x d h e = absurd (omega arith)
read_default (y ∷ ys) zero x d h e = sym e
read_default (y ∷ ys) (suc i) x d h e = read_default ys i x d (omega arith) e

-- what is read where a worker delivers slot i
pub record Reads (s : State) (i : ℕ) (o : Option Message) : Type 0 where
  pub message : Message
  pub is : o ≡ Some message
  pub slot : i < length s.slots
  pub target : message.target < length s.cells

pub slot_read : (s : State) (w i : ℕ) → Kept s → ahead_of s.slots (worker_at s w) ≡ Some i → (o : Option Message) → o ≡ get_or s.slots i o → Reads s i o
slot_read s w i k e o read =
    let can = can_deliver s w i k e in
    let m : Message = can.next.message in
    let b = target_within s.slots s.home k.setting i m can.next.there in
    let wide = k.wide in
    record { message = m; is = read ∙ get_or_from_slice_get s.slots i (Some m) o can.next.there; slot = slice_get_within s.slots i (Some m) can.next.there; target = omega arith }

pub slot_within : (s : State) (w i : ℕ) → Kept s → ahead_of s.slots (worker_at s w) ≡ Some i → i < length s.slots
slot_within s w i k e = let can = can_deliver s w i k e in slice_get_within s.slots i (Some can.next.message) can.next.there

pub target_of : (s : State) (w i : ℕ) → Kept s → ahead_of s.slots (worker_at s w) ≡ Some i → (o : Option Message) → o ≡ get_or s.slots i o → (m : Message) → o ≡ Some m → m.target < length s.cells
target_of s w i k e o read m is =
    let r = slot_read s w i k e o read in
    let same : r.message ≡ m = (let p : o ≡ Some r.message = r.is in cc) in
    subst (λ (x : Message). x.target < length s.cells) same r.target

pub last_behind : (s : State) (w i : ℕ) → Kept s → ahead_of s.slots (worker_at s w) ≡ Some i → IfSome (worker_at s w).last (λ h. 512 * h.claim ≤ i)
last_behind s w i k e =
    let can = can_deliver s w i k e in
    let b = can.next.behind in
    subst (λ (o : Option Held). IfSome o (λ h. 512 * h.claim ≤ i)) (sym can.is_last) (omega arith)

-- what the code writes is the event's effect
pub deliver_is : (s : State) (w i : ℕ) (m : Message) (x word y : ℕ) (old new : Worker) → get_or s.slots i None ≡ Some m → word ≡ message_word s.kind m → y ≡ get_or s.cells m.target 0 → x ≡ joined s.kind y word → old ≡ worker_at s w → new ≡ passed_to i old
    → record { kind = s.kind; slots = s.slots; home = s.home; next = s.next; cells = set s.cells m.target x; workers = set s.workers w new } ≡ deliver s w i
deliver_is s w i m x word y old new slot is_word is_y is_x is_old is_new =
    let cells : set s.cells m.target x ≡ delivered s.kind s.cells (get_or s.slots i None) = ap (set s.cells m.target) (is_x ∙ ap₂ (joined s.kind) is_y is_word) ∙ ap (delivered s.kind s.cells) (sym slot) in
    let workers : set s.workers w new ≡ set s.workers w (passed_to i (worker_at s w)) = ap (set s.workers w) (is_new ∙ ap (passed_to i) is_old) in
    λ j. record { kind = s.kind; slots = s.slots; home = s.home; next = s.next; cells = cells j; workers = workers j }

-- the state that an answer leaves
pub answer_keeps : {E : Type 0} (r : Result Bool E) (old new : State) (e : Event) → Kept old → OnOk r (new ≡ after old e) → OnErr r (new ≡ old) → Kept new
answer_keeps (Ok b) old new e k ok err = subst Kept (sym ok) (after_keeps old e k)
answer_keeps (Err x) old new e k ok err = subst Kept (sym err) k
