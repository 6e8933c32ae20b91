-- What a pass keeps beside its view, after each step.
use Rattle.std.proofs.Common.{◌≡◌, ℕ, ◌+◌, ◌-◌, ◌*◌, ◌%◌, ◌^◌, ◌<◌, ◌≤◌, max, min, bit_and, bit_or, bit_xor, true, if◌then◌else◌, nat_lt, is_some, List, [], ◌∷◌, ◌++◌, length, slice_index, drop, sum_by, option_map, option_to_list, Option, Some, None, refl, sym, ap, ◌∙◌, subst, arith}
use Rattle.std.proofs.lemmas.List.Sums.{sum_by-cons}
use Rattle.std.proofs.lemmas.Bool.{cond-true, lt-ltb}
use Rattle.atomic_table.specs.Table.{State as TableState, Final, Seen}
use Rattle.cstar_base.specs.declared.operators.Combiner.TheVariants as combiner
use Rattle.combine_core.specs.declared.kind.Kind.{Kind}
use Rattle.combine_core.specs.declared.kind.Kind.TheVariants.{Add, And, Or, Xor, Min, Max, Last, First}
use Rattle.combine_core.specs.declared.message.Message.{Message}
use Rattle.combine_core.specs.declared.worker.Held.{Held}
use Rattle.combine_core.specs.declared.worker.Worker.{Worker}
use Rattle.combine_core.specs.Encodings.{combiner_of, joined, decoded}
use Rattle.combine_core.specs.Folded.{folded}
use Rattle.combine_core.specs.Machine.{State, claims_of, held, held_by, worker_at, next_in, ahead_of, drawn, passed_to, IsComplete}
use Rattle.combine_core.proofs.Sums.{sum_below-ones, weigh-both}
use Rattle.combine_core.proofs.Steps.{with_claim}
use Rattle.combine_core.proofs.Points.{complete_cell, complete_is_folded}
use Rattle.combine_core.proofs.Folds.{decoded_fits}
use Rattle.combine_board.specs.declared.view.View.{View}
use Rattle.combine_board.specs.Values.{Plan, with_last, HoldsEvery}
use Rattle.combine_board.specs.Rule.{plan_of, view_with, shown, Holds, first_view, claimed_view, both_view, IsTold, IsPass, done_claim, done_in}
use Rattle.combine_board.specs.Tree.{AllDone}
use Rattle.combine_board.proofs.Views.{worker_shown, rest-get}

weigh_last : (g : ℕ → ℕ → ℕ) (last : Option Held) (others : List Held) (h : Held) → last ≡ Some h → sum_by (λ (x : Held). g x.claim x.passed) (option_to_list last ++ others) ≡ g h.claim h.passed + sum_by (λ (x : Held). g x.claim x.passed) others
weigh_last g last others h e =
    ap (λ (o : Option Held). sum_by (λ (x : Held). g x.claim x.passed) (option_to_list o ++ others)) e ∙ sum_by-cons (λ (x : Held). g x.claim x.passed) h others

pub claimed_pass : (v : View) (n : ℕ) (last : Option Held) (next number : Option ℕ) (done : ℕ) → IsPass v last next number done → IsTold (claimed_view n v) → n < claims_of v.slots
    → IsPass (claimed_view n v) (Some (held n 0)) (next_in v.slots (held n 0)) (Some n) (done + done_claim v.slots n 0)
claimed_pass v n last next number done p t is_claim =
    let e : with_claim n v.worker ≡ drawn (claims_of v.slots) n v.worker = sym (cond-true (nat_lt n (claims_of v.slots)) _ _ (lt-ltb n (claims_of v.slots) is_claim)) in
    subst (λ (w : Worker). IsTold (view_with v w) → IsPass (view_with v w) (Some (held n 0)) (next_in v.slots (held n 0)) (Some n) (done + done_claim v.slots n 0)) e
    (λ told. record {
      live = p.live;
      last_is = refl;
      next_is = refl;
      number_is = refl;
      done_is = (let was = p.done_is in let more = sum_by-cons (λ (x : Held). done_claim v.slots x.claim x.passed) (held n 0) (held_by v.worker) in omega arith);
      told = told;
    })
    t

pub delivered_pass : (v : View) (h : Held) (i : ℕ) (last : Option Held) (next number : Option ℕ) (done : ℕ) → IsPass v last next number done → v.worker.last ≡ Some h → next_in v.slots h ≡ Some i
    → IsTold (view_with v (passed_to i v.worker))
    → IsPass (view_with v (passed_to i v.worker)) (Some (held h.claim (i + 1 - 512 * h.claim))) (next_in v.slots (held h.claim (i + 1 - 512 * h.claim))) number (done + done_claim v.slots h.claim (i + 1 - 512 * h.claim))
delivered_pass v h i last next number done p is_last is_next t =
    let new : Held = held h.claim (i + 1 - 512 * h.claim) in
    let now : option_map (λ (x : Held). held x.claim (i + 1 - 512 * x.claim)) v.worker.last ≡ Some (held h.claim (i + 1 - 512 * h.claim)) = ap (option_map (λ (x : Held). held x.claim (i + 1 - 512 * x.claim))) is_last in
    record {
      live = p.live;
      last_is = sym now;
      next_is = sym (ap (λ (o : Option Held). ahead_of v.slots record { live = true; last = o; others = []; number = None; misses = 0; draws = 0 }) now);
      number_is = p.number_is;
      done_is =
          let was = p.done_is in
          let old = weigh_last (done_claim v.slots) v.worker.last v.worker.others h is_last in
          let more = weigh_last (done_claim v.slots) (passed_to i v.worker).last v.worker.others new now in
          let none : done_claim v.slots h.claim h.passed ≡ 0 = ap (λ (o : Option ℕ). if is_some o then 0 else 1) is_next in
          omega arith;
      told = t;
    }

-- 1 for a claim, whether it is done before or now
done_once : {X : Type 0} (o : Option X) → (if is_some o then 0 else 1) + (if is_some o then 1 else 0) ≡ 1
done_once None = refl
done_once (Some x) = refl

pub rest_pass : (v : View) (h r : Held) (last : Option Held) (next number : Option ℕ) (done : ℕ) → IsPass v last next number done → v.worker.last ≡ Some h → r.claim ≡ h.claim → next_in v.slots r ≡ None
    → IsTold (view_with v (with_last r v.worker)) → IsPass (view_with v (with_last r v.worker)) (Some r) None number (done + (if is_some next then 1 else 0))
rest_pass v h r last next number done p is_last same none t =
    let ahead : next ≡ next_in v.slots h = p.next_is ∙ ap (λ (o : Option Held). ahead_of v.slots record { live = true; last = o; others = []; number = None; misses = 0; draws = 0 }) is_last in
    record {
      live = p.live;
      last_is = refl;
      next_is = sym none;
      number_is = p.number_is;
      done_is =
          let was = p.done_is in
          let old = weigh_last (done_claim v.slots) v.worker.last v.worker.others h is_last in
          let more = weigh_last (done_claim v.slots) (Some r) v.worker.others r refl in
          let before : done_claim v.slots h.claim h.passed ≡ (if is_some next then 0 else 1) = ap (λ (o : Option ℕ). if is_some o then 0 else 1) (sym ahead) in
          let now : done_claim v.slots r.claim r.passed ≡ 1 = ap (λ (o : Option ℕ). if is_some o then 0 else 1) none in
          let once = done_once next in
          omega arith;
      told = t;
    }

pub both_pass : (v w : View) (last last' : Option Held) (next next' number number' : Option ℕ) (done done' : ℕ) → IsPass v last next number done → IsPass w last' next' number' done' → plan_of w ≡ plan_of v → IsTold (both_view v w)
    → IsPass (both_view v w) last next number (done + done')
both_pass v w last last' next next' number number' done done' p q same t =
    record {
      live = p.live;
      last_is = p.last_is;
      next_is = p.next_is;
      number_is = p.number_is;
      done_is =
          let a = p.done_is in
          let b = q.done_is in
          let e : done_in w.slots w.worker ≡ done_in v.slots w.worker = ap (λ (x : Plan). done_in x.slots w.worker) same in
          let both = weigh-both (done_claim v.slots) v.worker w.worker in
          omega arith;
      told = t;
    }

pub first_pass : (a : Plan) → IsTold (first_view a) → IsPass (first_view a) None None None 0
first_pass a t = record { live = refl; last_is = refl; next_is = refl; number_is = refl; done_is = refl; told = t }

-- a pass never holds more claims than there are
sum_ones : {X : Type 0} (xs : List X) → sum_by (λ x. 1) xs ≡ length xs
sum_ones [] = refl
sum_ones (x ∷ xs) = let r = sum_ones xs in omega (arith, sum_by-cons (λ x. 1) x xs)

pub few_claims : (v : View) → IsTold v → length (held_by v.worker) ≤ claims_of v.slots
few_claims v t = let a = t.once (λ c p. 1) in let b = sum_ones (held_by v.worker) in let c = sum_below-ones (claims_of v.slots) in omega arith

-- ---- the operations that do the joins

pub adds : (k : Kind) → (combiner_of k).0 ≡ combiner.Add → (x y : ℕ) → (x + y) % 2 ^ 64 ≡ joined k x y
adds Add e x y = refl
adds And e x y = absurd (cc)
adds Or e x y = absurd (cc)
adds Xor e x y = absurd (cc)
adds (Min signed) e x y = absurd (cc)
adds (Max signed) e x y = absurd (cc)
adds Last e x y = absurd (cc)
adds First e x y = absurd (cc)

pub ands : (k : Kind) → (combiner_of k).0 ≡ combiner.And → (x y : ℕ) → bit_and x y ≡ joined k x y
ands And e x y = refl
ands Add e x y = absurd (cc)
ands Or e x y = absurd (cc)
ands Xor e x y = absurd (cc)
ands (Min signed) e x y = absurd (cc)
ands (Max signed) e x y = absurd (cc)
ands Last e x y = absurd (cc)
ands First e x y = absurd (cc)

pub ors : (k : Kind) → (combiner_of k).0 ≡ combiner.Or → (x y : ℕ) → bit_or x y ≡ joined k x y
ors Or e x y = refl
ors Add e x y = absurd (cc)
ors And e x y = absurd (cc)
ors Xor e x y = absurd (cc)
ors (Min signed) e x y = absurd (cc)
ors (Max signed) e x y = absurd (cc)
ors Last e x y = absurd (cc)
ors First e x y = absurd (cc)

pub xors : (k : Kind) → (combiner_of k).0 ≡ combiner.Xor → (x y : ℕ) → bit_xor x y ≡ joined k x y
xors Xor e x y = refl
xors Add e x y = absurd (cc)
xors And e x y = absurd (cc)
xors Or e x y = absurd (cc)
xors (Min signed) e x y = absurd (cc)
xors (Max signed) e x y = absurd (cc)
xors Last e x y = absurd (cc)
xors First e x y = absurd (cc)

pub mins : (k : Kind) → (combiner_of k).0 ≡ combiner.Min → (x y : ℕ) → min x y ≡ joined k x y
mins (Min signed) e x y = refl
mins Add e x y = absurd (cc)
mins And e x y = absurd (cc)
mins Or e x y = absurd (cc)
mins Xor e x y = absurd (cc)
mins (Max signed) e x y = absurd (cc)
mins Last e x y = absurd (cc)
mins First e x y = absurd (cc)

pub maxes : (k : Kind) → (combiner_of k).0 ≡ combiner.Max → (x y : ℕ) → max x y ≡ joined k x y
maxes (Max signed) e x y = refl
maxes Add e x y = absurd (cc)
maxes And e x y = absurd (cc)
maxes Or e x y = absurd (cc)
maxes Xor e x y = absurd (cc)
maxes (Min signed) e x y = absurd (cc)
maxes Last e x y = absurd (cc)
maxes First e x y = absurd (cc)

pub lasts : (k : Kind) → (combiner_of k).0 ≡ combiner.Last → (x y : ℕ) → max x y ≡ joined k x y
lasts Last e x y = refl
lasts First e x y = refl
lasts Add e x y = absurd (cc)
lasts And e x y = absurd (cc)
lasts Or e x y = absurd (cc)
lasts Xor e x y = absurd (cc)
lasts (Min signed) e x y = absurd (cc)
lasts (Max signed) e x y = absurd (cc)

-- ---- the closed board

-- the word of each target decodes to the fold, and fits 32 bits
abbrev pub IsClosed : Plan → List ℕ → Type 0
IsClosed a ws =
    (t : ℕ) → t < length a.home
    → (decoded a.kind (slice_index a.home t) (slice_index ws (t + 1)) ≡ folded a.kind t (slice_index a.home t) a.slots) × (decoded a.kind (slice_index a.home t) (slice_index ws (t + 1)) < 2 ^ 32)

pub closed_word : (a : Plan) (id : ℕ) (v : View) (ws xs : List ℕ) → Final (Seen (Holds a) id v) ws xs → IsComplete a.slots (held_by v.worker) → IsClosed a ws
closed_word a id v ws xs f complete t below =
    let s : TableState ℕ View = f.0 in
    let h : Holds a s = f.1.0 in
    let st : State = shown a s.words s.views in
    let is : worker_at st id ≡ v.worker = worker_shown s.views id v f.1.1 in
    let all : IsComplete a.slots (held_by (worker_at st id)) = subst (λ (x : Worker). IsComplete a.slots (held_by x)) (sym is) complete in
    let word : slice_index (drop 1 s.words) t ≡ slice_index ws (t + 1) = rest-get s.words (t + 1) t (omega arith) ∙ ap (λ (us : List ℕ). slice_index us (t + 1)) f.2 in
    let value = complete_is_folded st h.kept id all t below in
    let cell = complete_cell st h.kept id all t below in (
      ap (decoded a.kind (slice_index a.home t)) (sym word) ∙ value,
      subst (λ (x : ℕ). decoded a.kind (slice_index a.home t) x < 2 ^ 32) (sym cell ∙ word) (decoded_fits a.kind t (slice_index a.home t) a.slots (h.kept.setting.words t)),
    )

-- ---- the tree of workers

pub complete_when_all : (os : List (Option Message)) (v : Worker) → HoldsEvery os v → AllDone os (held_by v) → IsComplete os (held_by v)
complete_when_all os v every done c below =
    let r = every c below in
    let h : Held = r.1 in
    (r.0, r.1, r.2, r.3, (r.4, subst (λ (x : Held). next_in os x ≡ None) r.3 (done r.0 h r.2)))
