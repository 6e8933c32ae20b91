-- Each step of the board is one event of the machine, and keeps the rule.
use Rattle.std.proofs.Common.{◌≡◌, ◌≢◌, ℕ, zero, suc, ◌+◌, ◌%◌, ◌^◌, ◌<◌, true, List, [], ◌∷◌, ◌++◌, length, map, get_or, set, drop, slice_index, slice_get, nat_lt, Some, None, refl, sym, ap, ap₂, ◌∙◌, ⊎_elim, subst, length-set, mod-eq_of_lt, arith}
use Rattle.std.proofs.lemmas.Option.{get_or_from_slice_get}
use Rattle.std.proofs.lemmas.Bool.{false≢true, cond_both}
use Rattle.std.proofs.lemmas.List.Sums.{get_or-le-sum_by}
use mathlib.Core.Option.{some, some-injective, some-ne-none}
use lib.ListN.{get_elem?}
use Rattle.atomic_table.specs.Table.{Me, State as TableState, keeps, Allows, Splits, Joins, opening as table_opening}
use Rattle.atomic_table.proofs.Lists.{at_set, set_here, set_again}
use Rattle.combine_core.specs.declared.message.Message.{Message}
use Rattle.combine_core.specs.declared.worker.Worker.{Worker}
use Rattle.combine_core.specs.Encodings.{encoded_home, joined}
use Rattle.combine_core.specs.Cells.{message_word}
use Rattle.combine_core.specs.Machine.{State, claims_of, spent, worker_at, ahead_of, kept_part, given_part, drawn, passed_to, delivered, both_parts, split, claim, deliver, join}
use Rattle.combine_core.specs.Kept.{Kept, IsSetting}
use Rattle.combine_core.proofs.Steps.{split_keeps, claim_keeps, deliver_keeps, join_keeps, opening_kept, with_claim, with_miss}
use Rattle.combine_board.specs.declared.view.View.{View}
use Rattle.combine_board.specs.Values.{Plan}
use Rattle.combine_board.specs.Rule.{plan_of, view_with, shown, Alike, Holds, first_view, claimed_view, delivered_by, delivered_view, kept_view, given_view, both_view, spent_view, IsTold, Claimed, Delivered, Looked}
use Rattle.combine_board.proofs.Views.{map-set, map-push, view_within, worker_shown, alike_set, alike_push, first-set, rest-set, first-set_rest, rest-set_rest, rest-get}
use Rattle.combine_board.proofs.Told.{told_of}

-- one is left to draw, so the next number is below 2 ^ 63
next_below : (a : Plan) (s : TableState ℕ View) (id : ℕ) (v : View) → Holds a s → get_elem? s.views id ≡ some v → 0 < v.worker.draws → slice_index s.words 0 < 2 ^ 63
next_below a s id v h at left =
    let st : State = shown a s.words s.views in
    let is : worker_at st id ≡ v.worker = worker_shown s.views id v at in
    let here : id < length st.workers = within st.workers id (subst (λ (x : Worker). 0 < x.draws) (sym is) left) in
    let part = get_or-le-sum_by (λ (x : Worker). x.draws) st.workers id spent here in
    let e = ap (λ (x : Worker). x.draws) is in
    let d = h.kept.drawn in
    omega arith
  where
    within : (ws : List Worker) (i : ℕ) → 0 < (get_or ws i spent).draws → i < length ws
    within [] i h = absurd (omega arith)
    within (w ∷ ws) zero h = omega arith
    within (w ∷ ws) (suc i) h = let r = within ws i h in omega arith

-- ---- claim

pub claim_is_event : (a : Plan) (s : TableState ℕ View) (id : ℕ) (v : View) → Holds a s → get_elem? s.views id ≡ some v → 0 < v.worker.draws → plan_of v ≡ a
    → shown a (set s.words 0 ((slice_index s.words 0 + 1) % 2 ^ 64)) (set s.views id (claimed_view (slice_index s.words 0) v)) ≡ claim (shown a s.words s.views) id
claim_is_event a s id v h at left plan =
    let n : ℕ = slice_index s.words 0 in
    let small = next_below a s id v h at left in
    let next : slice_index (set s.words 0 ((slice_index s.words 0 + 1) % 2 ^ 64)) 0 ≡ slice_index s.words 0 + 1 = first-set s.words ((slice_index s.words 0 + 1) % 2 ^ 64) h.wide ∙ mod-eq_of_lt (omega arith) in
    let cells : drop 1 (set s.words 0 ((slice_index s.words 0 + 1) % 2 ^ 64)) ≡ drop 1 s.words = rest-set s.words ((slice_index s.words 0 + 1) % 2 ^ 64) in
    let worker : (claimed_view n v).worker ≡ drawn (claims_of a.slots) n (get_or (map (λ v. v.worker) s.views) id spent) =
    ap (λ (p : Plan). drawn (claims_of p.slots) n v.worker) plan ∙ ap (drawn (claims_of a.slots) n) (sym (worker_shown s.views id v at)) in
    let workers : map (λ v. v.worker) (set s.views id (claimed_view n v)) ≡ set (map (λ v. v.worker) s.views) id (drawn (claims_of a.slots) n (get_or (map (λ v. v.worker) s.views) id spent)) =
    map-set s.views id (claimed_view n v) ∙ ap (set (map (λ v. v.worker) s.views) id) worker in
    λ j. record { kind = a.kind; slots = a.slots; home = a.home; next = next j; cells = cells j; workers = workers j }

claim_holds : (a : Plan) (s : TableState ℕ View) (id : ℕ) (v : View) → Holds a s → get_elem? s.views id ≡ some v → v.worker.live ≡ true → 0 < v.worker.draws → plan_of v ≡ a
    → Holds a record { words = set s.words 0 ((slice_index s.words 0 + 1) % 2 ^ 64); homes = s.homes; views = set s.views id (claimed_view (slice_index s.words 0) v) }
claim_holds a s id v h at live left plan =
    let is = worker_shown s.views id v at in
    record {
      wide = (let w = h.wide in omega (arith, length-set s.words 0 ((slice_index s.words 0 + 1) % 2 ^ 64)));
      kept = subst Kept (sym (claim_is_event a s id v h at left plan))
          (claim_keeps (shown a s.words s.views) id (ap (λ (x : Worker). x.live) is ∙ live) (subst (λ (x : Worker). 0 < x.draws) (sym is) left) h.kept);
      alike = alike_set a s.views id (claimed_view (slice_index s.words 0) v) h.alike (λ _. plan);
    }

drawn_live : (claims n : ℕ) (v : Worker) → (drawn claims n v).live ≡ v.live
drawn_live claims n v = cond_both (nat_lt n claims) (with_claim n v) (with_miss n v) (λ (x : Worker). x.live ≡ v.live) (λ _. refl) (λ _. refl)

pub claim_allows : (a : Plan) (slots id : ℕ) (me : Me ℕ View) → me.0.worker.live ≡ true → 0 < me.0.worker.draws → plan_of me.0 ≡ a → Allows (Holds a) slots id me 0 (λ n. (n + 1) % 2 ^ 64) (Claimed me)
claim_allows a slots id me live left plan s h homes at small =
    let n : ℕ = slice_index s.words 0 in
    let w : View = claimed_view n me.0 in
    let after = claim_holds a s id me.0 h at live left plan in
    let t : IsTold w = told_of a record { words = set s.words 0 ((slice_index s.words 0 + 1) % 2 ^ 64); homes = s.homes; views = set s.views id w } id w after
    (set_here s.views id w (view_within s.views id me.0 at)) (drawn_live (claims_of me.0.slots) n me.0.worker ∙ live) in
    (w, keeps, tt, after, (refl, t, next_below a s id me.0 h at left))

-- ---- deliver

pub deliver_is_event : (a : Plan) (s : TableState ℕ View) (id i : ℕ) (v : View) (m : Message) (word : ℕ) (f : ℕ → ℕ) → Holds a s → get_elem? s.views id ≡ some v → word ≡ suc m.target
    → slice_get a.slots i ≡ Some (Some m) → ((x : ℕ) → f x ≡ joined a.kind x (message_word a.kind m))
    → shown a (set s.words word (f (slice_index s.words word))) (set s.views id (view_with v (passed_to i v.worker))) ≡ deliver (shown a s.words s.views) id i
deliver_is_event a s id i v m word f h at is_word slot joins =
    let x : ℕ = f (slice_index s.words word) in
    let next : slice_index (set s.words word x) 0 ≡ slice_index s.words 0 = first-set_rest s.words word m.target x is_word in
    let value : f (slice_index s.words word) ≡ joined a.kind (slice_index (drop 1 s.words) m.target) (message_word a.kind m) =
    joins (slice_index s.words word) ∙ ap (λ (y : ℕ). joined a.kind y (message_word a.kind m)) (sym (rest-get s.words word m.target is_word)) in
    let cells : drop 1 (set s.words word x) ≡ delivered a.kind (drop 1 s.words) (get_or a.slots i None) =
    rest-set_rest s.words word m.target x is_word ∙ ap (set (drop 1 s.words) m.target) value
    ∙ ap (delivered a.kind (drop 1 s.words)) (sym (get_or_from_slice_get a.slots i (Some m) None slot)) in
    let workers : map (λ v. v.worker) (set s.views id (view_with v (passed_to i v.worker))) ≡ set (map (λ v. v.worker) s.views) id (passed_to i (get_or (map (λ v. v.worker) s.views) id spent)) =
    map-set s.views id (view_with v (passed_to i v.worker)) ∙ ap (λ (y : Worker). set (map (λ v. v.worker) s.views) id (passed_to i y)) (sym (worker_shown s.views id v at)) in
    λ j. record { kind = a.kind; slots = a.slots; home = a.home; next = next j; cells = cells j; workers = workers j }

pub deliver_allows : (a : Plan) (slots id i : ℕ) (me : Me ℕ View) (m : Message) (word : ℕ) (f : ℕ → ℕ) → me.0.worker.live ≡ true → plan_of me.0 ≡ a → ahead_of me.0.slots me.0.worker ≡ Some i → word ≡ suc m.target
    → slice_get a.slots i ≡ Some (Some m) → ((x : ℕ) → f x ≡ joined a.kind x (message_word a.kind m)) → Allows (Holds a) slots id me word f (Delivered me)
deliver_allows a slots id i me m word f live plan next is_word slot joins s h homes at small =
    let v : View = me.0 in
    let w : View = view_with v (passed_to i v.worker) in
    let is = worker_shown s.views id v at in
    let ahead : ahead_of a.slots (worker_at (shown a s.words s.views) id) ≡ Some i = ap (ahead_of a.slots) is ∙ subst (λ (p : Plan). ahead_of p.slots v.worker ≡ Some i) plan next in
    let after : Holds a record { words = set s.words word (f (slice_index s.words word)); homes = s.homes; views = set s.views id w } = record {
      wide = (let q = h.wide in omega (arith, length-set s.words word (f (slice_index s.words word))));
      kept = subst Kept (sym (deliver_is_event a s id i v m word f h at is_word slot joins))
          (deliver_keeps (shown a s.words s.views) id i (ap (λ (x : Worker). x.live) is ∙ live) ahead h.kept);
      alike = alike_set a s.views id w h.alike (λ _. plan);
    } in
    let t : IsTold w = told_of a record { words = set s.words word (f (slice_index s.words word)); homes = s.homes; views = set s.views id w } id w after (set_here s.views id w (view_within s.views id v at)) live in
    let same : delivered_view v ≡ w = ap (delivered_by v) next in
    (w, keeps, tt, after, ((λ j. (sym same j, me.1)), subst IsTold (sym same) t))

-- ---- split

pub split_is_event : (a : Plan) (s : TableState ℕ View) (id : ℕ) (v : View) → get_elem? s.views id ≡ some v
    → shown a s.words (set s.views id (kept_view v) ++ given_view v ∷ []) ≡ split (shown a s.words s.views) id
split_is_event a s id v at =
    let is = worker_shown s.views id v at in
    let workers : map (λ v. v.worker) (set s.views id (kept_view v) ++ given_view v ∷ []) ≡ set (map (λ v. v.worker) s.views) id (kept_part (get_or (map (λ v. v.worker) s.views) id spent)) ++ given_part (get_or (map (λ v. v.worker) s.views) id spent) ∷ [] =
    map-push (set s.views id (kept_view v)) (given_view v)
    ∙ ap (λ (ws : List Worker). ws ++ given_part v.worker ∷ []) (map-set s.views id (kept_view v))
    ∙ ap (λ (y : Worker). set (map (λ v. v.worker) s.views) id (kept_part y) ++ given_part y ∷ []) (sym is) in
    λ j. record { kind = a.kind; slots = a.slots; home = a.home; next = slice_index s.words 0; cells = drop 1 s.words; workers = workers j }

pub splits : (a : Plan) (id : ℕ) (v : View) → v.worker.live ≡ true → plan_of v ≡ a → Splits (Holds a) id v (kept_view v) (given_view v)
splits a id v live plan s h at =
    let is = worker_shown s.views id v at in
    record {
      wide = h.wide;
      kept = subst Kept (sym (split_is_event a s id v at)) (split_keeps (shown a s.words s.views) id (ap (λ (x : Worker). x.live) is ∙ live) h.kept);
      alike = alike_push a (set s.views id (kept_view v)) (given_view v) (alike_set a s.views id (kept_view v) h.alike (λ _. plan)) (λ _. plan);
    }

-- ---- join

other_view : (views : List View) (id other : ℕ) (x w : View) → other ≢ id → get_elem? (set views id x) other ≡ some w → get_elem? views other ≡ some w
other_view views id other x w apart at =
    ⊎_elim
    (λ (y : (other ≡ id) × (x ≡ w)). absurd (apart y.0))
    (λ (y : (other ≢ id) × (get_elem? views other ≡ some w)). y.1)
    (at_set views id other x w at)

pub join_is_event : (a : Plan) (s : TableState ℕ View) (id other : ℕ) (v w : View) → get_elem? s.views id ≡ some v → get_elem? s.views other ≡ some w
    → shown a s.words (set (set s.views id (both_view v w)) other spent_view) ≡ join (shown a s.words s.views) id other
join_is_event a s id other v w at there =
    let is = worker_shown s.views id v at in
    let that = worker_shown s.views other w there in
    let workers : map (λ v. v.worker) (set (set s.views id (both_view v w)) other spent_view) ≡ set (set (map (λ v. v.worker) s.views) id (both_parts (get_or (map (λ v. v.worker) s.views) id spent) (get_or (map (λ v. v.worker) s.views) other spent))) other spent =
    map-set (set s.views id (both_view v w)) other spent_view
    ∙ ap (λ (ws : List Worker). set ws other spent) (map-set s.views id (both_view v w))
    ∙ ap₂ (λ (x y : Worker). set (set (map (λ v. v.worker) s.views) id (both_parts x y)) other spent) (sym is) (sym that) in
    λ j. record { kind = a.kind; slots = a.slots; home = a.home; next = slice_index s.words 0; cells = drop 1 s.words; workers = workers j }

pub joins : (a : Plan) (id other : ℕ) (v w : View) → v.worker.live ≡ true → w.worker.live ≡ true → plan_of v ≡ a → Joins (Holds a) id v other w (both_view v w) spent_view
joins a id other v w live other_live plan s h at apart there =
    let place = other_view s.views id other (both_view v w) w apart there in
    let is = worker_shown s.views id v at in
    let that = worker_shown s.views other w place in
    record {
      wide = h.wide;
      kept = subst Kept (sym (join_is_event a s id other v w at place))
          (join_keeps (shown a s.words s.views) id other (ap (λ (x : Worker). x.live) is ∙ live) (ap (λ (x : Worker). x.live) that ∙ other_live) (λ e. apart (sym e)) h.kept);
      alike = alike_set a (set s.views id (both_view v w)) other spent_view (alike_set a s.views id (both_view v w) h.alike (λ _. plan)) (λ e. absurd (false≢true e));
    }

-- ---- a look

pub look_allows : (a : Plan) (slots id : ℕ) (me : Me ℕ View) → me.0.worker.live ≡ true → Allows (Holds a) slots id me 0 (λ n. n) (Looked me)
look_allows a slots id me live s h homes at small =
    let same_views : set s.views id me.0 ≡ s.views = set_again s.views id me.0 at in
    let same_words : set s.words 0 (slice_index s.words 0) ≡ s.words = same s.words in
    let after : Holds a record { words = set s.words 0 (slice_index s.words 0); homes = s.homes; views = set s.views id me.0 } =
    subst (λ (p : List ℕ × List View). Holds a record { words = p.0; homes = s.homes; views = p.1 }) (λ j. (sym same_words j, sym same_views j)) h in
    (me.0, keeps, tt, after, (refl, told_of a s id me.0 h at live))
  where
    same : (ws : List ℕ) → set ws 0 (slice_index ws 0) ≡ ws
    same [] = refl
    same (w ∷ ws) = refl

-- ---- the start

pub first_holds : (a : Plan) → IsSetting a.slots a.home → Holds a (table_opening (0 ∷ map (encoded_home a.kind) a.home) [] (first_view a))
first_holds a setting =
    record { wide = omega arith; kept = opening_kept a.kind a.slots a.home setting; alike = only }
  where
    only : Alike a (first_view a ∷ [])
    only zero v at live = ap plan_of (sym (some-injective (first_view a) v at))
    only (suc j) v at live = absurd (some-ne-none v (sym at))

pub first_told : (a : Plan) → IsSetting a.slots a.home → IsTold (first_view a)
first_told a setting = told_of a (table_opening (0 ∷ map (encoded_home a.kind) a.home) [] (first_view a)) 0 (first_view a) (first_holds a setting) refl refl
