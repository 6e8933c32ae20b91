-- What a pass knows of its claims, and how it counts those that are done.
use Rattle.std.proofs.Common.{◌≡◌, ℕ, zero, suc, ◌+◌, ◌*◌, ◌<◌, ◌≤◌, min, Bool, true, false, ◌==◌, if◌then◌else◌, nat_lt, is_some, List, [], ◌∷◌, ◌++◌, length, map, get_or, sum_by, option_to_list, Option, Some, None, refl, sym, ap, ◌∙◌, ⊎_elim, subst, arith}
use Rattle.std.proofs.lemmas.List.Sums.{sum_by-cons, get_or-le-sum_by}
use Rattle.std.proofs.lemmas.Bool.{cases_lt, cases_eq, cond-true, cond-false, lt-ltb, le-ltb, eq-eqb, ne_eqb, eqb-true, ltb-true}
use mathlib.Core.Option.{some}
use lib.ListN.{get_elem?}
use Rattle.atomic_table.specs.Table.{State as TableState}
use Rattle.combine_core.specs.declared.message.Message.{Message}
use Rattle.combine_core.specs.declared.worker.Held.{Held}
use Rattle.combine_core.specs.declared.worker.Worker.{Worker}
use Rattle.combine_core.specs.Machine.{State, claims_of, held, held_by, spent, worker_at, next_in, weigh, IsDone, IsComplete}
use Rattle.combine_core.specs.Kept.{Kept, sum_below}
use Rattle.combine_core.proofs.Sums.{sum_below-change, sum_below-ones, sum_by-mono, sum_by-same, some_part, unless, unless_zero}
use Rattle.combine_core.proofs.Points.{claims_held, whole_holds_all}
use Rattle.combine_board.specs.declared.view.View.{View}
use Rattle.combine_board.specs.Values.{Plan, WholeHoldsEvery}
use Rattle.combine_board.specs.Rule.{shown, Holds, IsTold, done_claim, done_in}
use Rattle.combine_board.proofs.Views.{view_within, worker_shown}

sum_below-mono : (n : ℕ) (f g : ℕ → ℕ) → ((c : ℕ) → c < n → f c ≤ g c) → sum_below n f ≤ sum_below n g
sum_below-mono zero f g h = omega arith
sum_below-mono (suc n) f g h = let r = sum_below-mono n f g (λ c b. h c (omega arith)) in let here = h n (omega arith) in omega arith

sum_below-more : (n m : ℕ) (f : ℕ → ℕ) → n ≤ m → sum_below n f ≤ sum_below m f
sum_below-more n zero f h = let e : sum_below n f ≡ sum_below 0 f = ap (λ (k : ℕ). sum_below k f) (let q : n ≡ 0 = omega arith in q) in omega arith
sum_below-more n (suc m) f h =
    ⊎_elim
    (λ (b : n < suc m). let r = sum_below-more n m f (omega arith) in omega arith)
    (λ (b : suc m ≤ n). let e : sum_below n f ≡ sum_below (suc m) f = ap (λ (k : ℕ). sum_below k f) (let q : n ≡ suc m = omega arith in q) in omega arith)
    (cases_lt n (suc m))

map-length : (views : List View) → length (map (λ v. v.worker) views) ≡ length views
map-length [] = refl
map-length (v ∷ views) = ap suc (map-length views)

-- the rule tells a live pass what its claims are
told_by : (a : Plan) (words : List ℕ) (views : List View) (id : ℕ) (v : View) → Kept (shown a words views) → get_elem? views id ≡ some v → IsTold record { kind = a.kind; slots = a.slots; home = a.home; worker = v.worker }
told_by a words views id v k at =
    let s : State = shown a words views in
    let is : worker_at s id ≡ v.worker = worker_shown views id v at in
    let here : id < length s.workers = (let b = view_within views id v at in let l = map-length views in omega arith) in
    record {
      setting = k.setting;
      passed = k.passed;
      once = λ g.
          let part = get_or-le-sum_by (weigh g) s.workers id spent here in
          let e = ap (weigh g) is in
          let all = k.holders g in
          let more = sum_below-more (min s.next (claims_of s.slots)) (claims_of s.slots) (λ c. g c (k.passed c)) (omega arith) in
          omega arith;
      within = k.within;
      fits =
          let p = get_or-le-sum_by (λ (x : Worker). length (held_by x)) s.workers id spent here in
          let q = get_or-le-sum_by (λ (x : Worker). x.misses) s.workers id spent here in
          let r = get_or-le-sum_by (λ (x : Worker). x.draws) s.workers id spent here in
          let pe = ap (λ (x : Worker). length (held_by x)) is in
          let qe = ap (λ (x : Worker). x.misses) is in
          let re = ap (λ (x : Worker). x.draws) is in
          let held_all = claims_held s k in
          let m = k.missed in
          let d = k.drawn in
          omega arith;
      whole = subst (λ (x : Worker). WholeHoldsEvery a.slots x) is (whole_holds_all s k id);
    }

pub told_of : (a : Plan) (s : TableState ℕ View) (id : ℕ) (v : View) → Holds a s → get_elem? s.views id ≡ some v → v.worker.live ≡ true → IsTold v
told_of a s id v h at live =
    subst (λ (b : Plan). IsTold record { kind = b.kind; slots = b.slots; home = b.home; worker = v.worker }) (sym (h.alike id v at live))
    (told_by a s.words s.views id v h.kept at)

-- ---- the count of done claims

-- a weight that is 0 of each claim with its passed slots is 0 of each held claim
weightless : (v : View) (t : IsTold v) (g : ℕ → ℕ → ℕ) → ((c : ℕ) → c < claims_of v.slots → g c (t.passed c) ≡ 0) → (j : ℕ) (d : Held) → j < length (held_by v.worker) → g (get_or (held_by v.worker) j d).claim (get_or (held_by v.worker) j d).passed ≡ 0
weightless v t g zeros j d h =
    let total = t.once g in
    let bound = sum_below-mono (claims_of v.slots) (λ c. g c (t.passed c)) (λ c. 0) (λ c b. let z = zeros c b in omega arith) in
    let none : sum_below (claims_of v.slots) (λ c. 0) ≡ 0 = sum_zero (claims_of v.slots) in
    let one = get_or-le-sum_by (λ (x : Held). g x.claim x.passed) (held_by v.worker) j d h in
    omega arith
  where
    sum_zero : (n : ℕ) → sum_below n (λ c. 0) ≡ 0
    sum_zero zero = refl
    sum_zero (suc n) = let r = sum_zero n in omega arith

pub told_claim : (v : View) (t : IsTold v) (j : ℕ) (d : Held) → j < length (held_by v.worker) → (get_or (held_by v.worker) j d).claim < claims_of v.slots
told_claim v t j d h =
    ltb-true (get_or (held_by v.worker) j d).claim (claims_of v.slots)
    (unless_zero _ (weightless v t (λ c p. unless (nat_lt c (claims_of v.slots))) (λ c b. ap unless (lt-ltb c (claims_of v.slots) b)) j d h))

pub told_passed : (v : View) (t : IsTold v) (j : ℕ) (d : Held) → j < length (held_by v.worker) → (get_or (held_by v.worker) j d).passed ≡ t.passed (get_or (held_by v.worker) j d).claim
told_passed v t j d h =
    eqb-true (get_or (held_by v.worker) j d).passed (t.passed (get_or (held_by v.worker) j d).claim)
    (unless_zero _ (weightless v t (λ c p. unless (p == t.passed c)) (λ c b. ap unless (eq-eqb (t.passed c) (t.passed c) refl)) j d h))

-- the last claim's passed slots stand among its slots
pub told_last : (v : View) (t : IsTold v) (h : Held) → v.worker.last ≡ Some h → (h.passed ≤ 512) × (512 * h.claim + h.passed ≤ length v.slots) × (h.claim < claims_of v.slots)
told_last v t h e =
    let first : get_or (held_by v.worker) 0 h ≡ h = ap (λ (o : Option Held). get_or (option_to_list o ++ v.worker.others) 0 h) e in
    let some : length (held_by v.worker) ≡ suc (length v.worker.others) = ap (λ (o : Option Held). length (option_to_list o ++ v.worker.others)) e in
    let here : 0 < length (held_by v.worker) = omega arith in
    let c : h.claim < claims_of v.slots = subst (λ (x : Held). x.claim < claims_of v.slots) first (told_claim v t 0 h here) in
    let p : h.passed ≡ t.passed h.claim = subst (λ (x : Held). x.passed ≡ t.passed x.claim) first (told_passed v t 0 h here) in
    let z = t.within h.claim c in
    let low : t.passed h.claim ≤ 512 = z.0 in
    let high : 512 * h.claim + t.passed h.claim ≤ length v.slots = z.1 in
    (omega arith, omega arith, c)

done_small : (b : Bool) → (if b then 0 else 1) ≤ 1
done_small true = omega arith
done_small false = omega arith

pub done_at_most : (v : View) (t : IsTold v) → done_in v.slots v.worker ≤ claims_of v.slots
done_at_most v t =
    let total = t.once (done_claim v.slots) in
    let bound = sum_below-mono (claims_of v.slots) (λ c. done_claim v.slots c (t.passed c)) (λ c. 1) (λ c b. done_small (is_some (next_in v.slots (held c (t.passed c))))) in
    let ones = sum_below-ones (claims_of v.slots) in
    omega arith

sum_by-add : {X : Type 0} (f g : X → ℕ) (xs : List X) → sum_by (λ x. f x + g x) xs ≡ sum_by f xs + sum_by g xs
sum_by-add f g [] = refl
sum_by-add f g (x ∷ xs) = let r = sum_by-add f g xs in omega (arith, sum_by-cons (λ y. f y + g y) x xs, sum_by-cons f x xs, sum_by-cons g x xs)

-- a weight at one claim alone, and at all others
abbrev at_claim : ℕ → (ℕ → ℕ → ℕ) → ℕ → ℕ → ℕ
at_claim c g j p = if j == c then g j p else 0

abbrev but_claim : ℕ → (ℕ → ℕ → ℕ) → ℕ → ℕ → ℕ
but_claim c g j p = if j == c then 0 else g j p

parted : (b : Bool) (n : ℕ) → n ≡ (if b then n else 0) + (if b then 0 else n)
parted true n = omega arith
parted false n = omega arith

weigh_parted : (c : ℕ) (g : ℕ → ℕ → ℕ) (v : Worker) → weigh g v ≡ weigh (at_claim c g) v + weigh (but_claim c g) v
weigh_parted c g v =
    sum_by-same (λ (h : Held). g h.claim h.passed) (λ h. at_claim c g h.claim h.passed + but_claim c g h.claim h.passed) (held_by v) (λ h. parted (h.claim == c) (g h.claim h.passed))
    ∙ sum_by-add (λ (h : Held). at_claim c g h.claim h.passed) (λ h. but_claim c g h.claim h.passed) (held_by v)

not_done : (b : Bool) (n : ℕ) → n ≤ 1 → (if b then 0 else n) ≤ unless b
not_done true n h = omega arith
not_done false n h = h

others_done : (v : View) (t : IsTold v) (c : ℕ) → c < claims_of v.slots → weigh (but_claim c (done_claim v.slots)) v.worker + 1 ≤ claims_of v.slots
others_done v t c below =
    let n : ℕ = claims_of v.slots in
    let total = t.once (but_claim c (done_claim v.slots)) in
    let bound = sum_below-mono (claims_of v.slots) (λ j. but_claim c (done_claim v.slots) j (t.passed j)) (λ j. unless (j == c)) (λ j b. not_done (j == c) (done_claim v.slots j (t.passed j)) (done_small (is_some (next_in v.slots (held j (t.passed j)))))) in
    let change = sum_below-change (claims_of v.slots) c (λ j. unless (j == c)) (λ j. 1) below (λ j apart. ap unless (ne_eqb j c apart)) in
    let here : unless (c == c) ≡ 0 = ap unless (eq-eqb c c refl) in
    let ones = sum_below-ones (claims_of v.slots) in
    omega arith

-- a held claim with some weight at c is claim c, with all messages delivered
is_none : {X : Type 0} (o : Option X) → 0 < (if is_some o then 0 else 1) → o ≡ None
is_none None h = refl
is_none (Some x) h = absurd (omega arith)

at_weight : (b : Bool) (n : ℕ) → 0 < (if b then n else 0) → (b ≡ true) × (0 < n)
at_weight true n h = (refl, h)
at_weight false n h = absurd (omega arith)

done_from_weight : (os : List (Option Message)) (v : Worker) (c : ℕ) → 0 < weigh (at_claim c (done_claim os)) v → IsDone os (held_by v) c
done_from_weight os v c h =
    let r = some_part (λ (x : Held). at_claim c (done_claim os) x.claim x.passed) (held_by v) h in
    let w = at_weight (r.1.claim == c) (done_claim os r.1.claim r.1.passed) r.4 in
    (r.0, r.1, r.2, r.3, (eqb-true r.1.claim c w.0, is_none (next_in os r.1) w.1))

pub complete_from_count : (v : View) → IsTold v → done_in v.slots v.worker ≡ claims_of v.slots → IsComplete v.slots (held_by v.worker)
complete_from_count v t all c below =
    let p = weigh_parted c (done_claim v.slots) v.worker in
    let o = others_done v t c below in
    done_from_weight v.slots v.worker c (omega arith)

-- done claims weigh at least one each
weight_from_done : (os : List (Option Message)) (v : Worker) (c : ℕ) → IsDone os (held_by v) c → 1 ≤ weigh (at_claim c (done_claim os)) v
weight_from_done os v c d =
    let h : Held = d.1 in
    let part = get_or-le-sum_by (λ (x : Held). at_claim c (done_claim os) x.claim x.passed) (held_by v) d.0 h d.2 in
    let is : get_or (held_by v) d.0 h ≡ h = d.3 in
    let same : at_claim c (done_claim os) (get_or (held_by v) d.0 h).claim (get_or (held_by v) d.0 h).passed ≡ at_claim c (done_claim os) h.claim h.passed = ap (λ (x : Held). at_claim c (done_claim os) x.claim x.passed) is in
    let one : at_claim c (done_claim os) h.claim h.passed ≡ 1 = cond-true (h.claim == c) _ 0 (eq-eqb h.claim c d.4.0) ∙ ap (λ (o : Option ℕ). if is_some o then 0 else 1) d.4.1 in
    omega arith

abbrev below_claim : ℕ → (ℕ → ℕ → ℕ) → ℕ → ℕ → ℕ
below_claim n g j p = if nat_lt j n then g j p else 0

one_more : (n : ℕ) (g : ℕ → ℕ → ℕ) (j p : ℕ) → below_claim (suc n) g j p ≡ below_claim n g j p + at_claim n g j p
one_more n g j p =
    ⊎_elim
    (λ (b : j < n).
    let a : below_claim (suc n) g j p ≡ g j p = cond-true (nat_lt j (suc n)) (g j p) 0 (lt-ltb j (suc n) (omega arith)) in
    let c : below_claim n g j p ≡ g j p = cond-true (nat_lt j n) (g j p) 0 (lt-ltb j n b) in
    let d : at_claim n g j p ≡ 0 = cond-false (j == n) (g j p) 0 (ne_eqb j n (λ e. omega arith)) in
    omega arith)
    (λ (b : n ≤ j).
    let c : below_claim n g j p ≡ 0 = cond-false (nat_lt j n) (g j p) 0 (le-ltb j n b) in
    ⊎_elim
    (λ (e : j ≡ n).
    let a : below_claim (suc n) g j p ≡ g j p = cond-true (nat_lt j (suc n)) (g j p) 0 (lt-ltb j (suc n) (omega arith)) in
    let d : at_claim n g j p ≡ g j p = cond-true (j == n) (g j p) 0 (eq-eqb j n e) in
    omega arith)
    (λ (ne : j ≡ n → ⊥).
    let a : below_claim (suc n) g j p ≡ 0 = cond-false (nat_lt j (suc n)) (g j p) 0 (le-ltb j (suc n) (omega arith)) in
    let d : at_claim n g j p ≡ 0 = cond-false (j == n) (g j p) 0 (ne_eqb j n ne) in
    omega arith)
    (cases_eq j n))
    (cases_lt j n)

part_small : (b : Bool) (n : ℕ) → (if b then n else 0) ≤ n
part_small true n = omega arith
part_small false n = omega arith

done_below : (os : List (Option Message)) (v : Worker) (n : ℕ) → ((c : ℕ) → c < n → IsDone os (held_by v) c) → n ≤ weigh (below_claim n (done_claim os)) v
done_below os v zero all = omega arith
done_below os v (suc n) all =
    let r = done_below os v n (λ c b. all c (omega arith)) in
    let here = weight_from_done os v n (all n (omega arith)) in
    let e : weigh (below_claim (suc n) (done_claim os)) v ≡ weigh (below_claim n (done_claim os)) v + weigh (at_claim n (done_claim os)) v =
    sum_by-same (λ (h : Held). below_claim (suc n) (done_claim os) h.claim h.passed) (λ h. below_claim n (done_claim os) h.claim h.passed + at_claim n (done_claim os) h.claim h.passed) (held_by v) (λ h. one_more n (done_claim os) h.claim h.passed)
    ∙ sum_by-add (λ (h : Held). below_claim n (done_claim os) h.claim h.passed) (λ h. at_claim n (done_claim os) h.claim h.passed) (held_by v) in
    omega arith

pub count_from_complete : (v : View) → IsTold v → IsComplete v.slots (held_by v.worker) → done_in v.slots v.worker ≡ claims_of v.slots
count_from_complete v t complete =
    let low = done_below v.slots v.worker (claims_of v.slots) complete in
    let high = done_at_most v t in
    let part = sum_by-mono (λ (h : Held). below_claim (claims_of v.slots) (done_claim v.slots) h.claim h.passed) (λ h. done_claim v.slots h.claim h.passed) (held_by v.worker) (λ h. part_small (nat_lt h.claim (claims_of v.slots)) (done_claim v.slots h.claim h.passed)) in
    omega arith
