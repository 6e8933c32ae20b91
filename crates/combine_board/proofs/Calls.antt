-- What the calls of a board need of its rule.
use Rattle.std.proofs.Common.{◌≡◌, ℕ, zero, suc, ◌+◌, ◌-◌, ◌*◌, ◌^◌, ◌<◌, ◌≤◌, true, List, [], ◌∷◌, length, slice_get, slice_index, set, Option, Some, option_map, ⊎_elim, sym, ap, ◌∙◌, subst, arith}
use Rattle.std.proofs.lemmas.Bool.{cases_lt}
use Rattle.std.proofs.lemmas.List.{get_or-set_same, get_or-set_other}
use Rattle.std.proofs.lemmas.Option.{option_and_then_some, same_Some, slice_get_within}
use mathlib.Core.Option.{some, some-injective, some-ne-none}
use lib.ListN.{get_elem?}
use Rattle.atomic_table.specs.Table.{Me, Allows}
use Rattle.combine_core.specs.declared.kind.Kind.{Kind}
use Rattle.combine_core.specs.declared.message.Message.{Message}
use Rattle.combine_core.specs.declared.worker.Held.{Held}
use Rattle.combine_core.specs.Encodings.{joined}
use Rattle.combine_core.specs.Cells.{message_word}
use Rattle.combine_core.specs.Machine.{held, next_in, ahead_of, passed_to}
use Rattle.combine_core.specs.Kept.{IsSetting}
use Rattle.combine_core.proofs.Ahead.{IsNext, next_in_some}
use Rattle.combine_core.proofs.Steps.{target_within}
use Rattle.combine_board.specs.declared.view.View.{View}
use Rattle.combine_board.specs.Values.{Plan}
use Rattle.combine_board.specs.Rule.{plan_of, view_with, Holds, IsTold, IsPass, Delivered, done_claim}
use Rattle.combine_board.proofs.Told.{told_last, done_at_most}
use Rattle.combine_board.proofs.Steps.{deliver_allows}
use Rattle.combine_board.proofs.Passes.{delivered_pass}

abbrev pub task_plan : Kind → List (Option Message) → List ℕ → Plan
task_plan k os home = record { kind = k; slots = os; home = home }

-- the slot that a pass may deliver, and the claim that has it
pub record IsAhead (v : View) (i : ℕ) : Type 0 where
  pub last : Held
  pub is_last : v.worker.last ≡ Some last
  pub is_next : next_in v.slots last ≡ Some i
  pub small : last.passed ≤ 512
  pub next : IsNext v.slots last.claim last.passed i

pub what_is_ahead : (v : View) → IsTold v → (i : ℕ) → ahead_of v.slots v.worker ≡ Some i → IsAhead v i
what_is_ahead v t i e =
    option_and_then_some (next_in v.slots) v.worker.last i e
    (λ h is_last is_next.
    let small = (told_last v t h is_last).0 in
    record { last = h; is_last = is_last; is_next = is_next; small = small; next = next_in_some v.slots h.claim h.passed i small is_next })

pub ahead_within : (v : View) (i : ℕ) → IsAhead v i → i < length v.slots
ahead_within v i a = slice_get_within v.slots i (Some a.next.message) a.next.there

-- an operation that joins as the board's combiner does may deliver the message that is next
pub hand_allows : (a : Plan) (slots id i : ℕ) (me : Me ℕ View) (m : Message) (value : ℕ) (f : ℕ → ℕ) → me.0.worker.live ≡ true → plan_of me.0 ≡ a → ahead_of a.slots me.0.worker ≡ Some i
    → slice_get a.slots i ≡ Some (Some m) → value ≡ message_word a.kind m → ((x : ℕ) → f x ≡ joined a.kind x value) → Allows (Holds a) slots id me (m.target + 1) f (Delivered me)
hand_allows a slots id i me m value f live plan next slot is_value joins =
    deliver_allows a slots id i me m (m.target + 1) f live plan (subst (λ (x : Plan). ahead_of x.slots me.0.worker ≡ Some i) (sym plan) next) (omega arith) slot
    (λ x. joins x ∙ ap (joined a.kind x) is_value)

-- what a delivery asks of its board: which table it is, how many words it has, and what it is about, by its key and as its callers see it
pub record Stands (words : ℕ) (now a : Plan) : Type 0 where
  pub same : now ≡ a
  pub setting : IsSetting now.slots now.home
  pub wide : words ≡ length now.home + 1

pub hand_asks : {T : Type 0} {x y : T} (words : ℕ) (now a : Plan) (slots id i : ℕ) (me : Me ℕ View) (m : Message) (value : ℕ) (f : ℕ → ℕ) → x ≡ y → Stands words now a → me.0.worker.live ≡ true → plan_of me.0 ≡ now
    → ahead_of now.slots me.0.worker ≡ Some i → slice_get now.slots i ≡ Some (Some m) → value ≡ message_word now.kind m → ((n : ℕ) → f n ≡ joined now.kind n value)
    → (x ≡ y) × (m.target + 1 < words) × Allows (Holds a) slots id me (m.target + 1) f (Delivered me)
hand_asks words now a slots id i me m value f table s live plan next slot is_value joins =
    let below = target_within now.slots now.home s.setting i m slot in
    let wide = s.wide in (
      table,
      omega arith,
      subst (λ (p : Plan). Allows (Holds p) slots id me (m.target + 1) f (Delivered me)) s.same (hand_allows now slots id i me m value f live plan next slot is_value joins),
    )

-- the same facts of a pass, in other words
pub pass_as : (v w : View) (last : Option Held) (next next' number : Option ℕ) (done done' : ℕ) → IsPass v last next number done → w ≡ v → next' ≡ next → done' ≡ done → IsPass w last next' number done'
pass_as v w last next next' number done done' p is_view is_next is_done =
    subst (λ (x : View). IsPass x last next' number done') (sym is_view)
    (subst (λ (o : Option ℕ). IsPass v last o number done') (sym is_next) (subst (λ (n : ℕ). IsPass v last next number n) (sym is_done) p))

-- the claim with its slots passed up to the one that was next
pub passed_last : (v : View) (i : ℕ) (r : Held) (a : IsAhead v i) → Some r ≡ (passed_to i v.worker).last → r ≡ held a.last.claim (i + 1 - 512 * a.last.claim)
passed_last v i r a e = same_Some _ _ (e ∙ ap (option_map (λ (x : Held). held x.claim (i + 1 - 512 * x.claim))) a.is_last)

pub delivered_as : (v : View) (i : ℕ) (r : Held) (last : Option Held) (next number : Option ℕ) (done : ℕ) → IsPass v last next number done → IsAhead v i → Some r ≡ (passed_to i v.worker).last → IsTold (view_with v (passed_to i v.worker))
    → IsPass (view_with v (passed_to i v.worker)) (Some r) (next_in v.slots r) number (done + done_claim v.slots r.claim r.passed)
delivered_as v i r last next number done p a e t =
    subst (λ (x : Held). IsPass (view_with v (passed_to i v.worker)) (Some x) (next_in v.slots x) number (done + done_claim v.slots x.claim x.passed)) (sym (passed_last v i r a e))
    (delivered_pass v a.last i last next number done p a.is_last a.is_next t)

-- a pass counts fewer claims than a number of 32 bits can
pub done_small : (v : View) (last : Option Held) (next number : Option ℕ) (done : ℕ) → IsPass v last next number done → done + 1 < 2 ^ 32
done_small v last next number done p =
    let is = p.done_is in
    let most = done_at_most v p.told in
    let few = p.told.setting.few_slots in
    omega arith

-- ---- the cells of a closed board

pub element_is : (xs : List ℕ) (i x : ℕ) → get_elem? xs i ≡ some x → slice_index xs i ≡ x
element_is [] i x e = absurd (some-ne-none x (sym e))
element_is (y ∷ ys) zero x e = some-injective y x e
element_is (y ∷ ys) (suc i) x e = element_is ys i x e

pub written : (f : ℕ → ℕ) (xs : List ℕ) (t x : ℕ) → t < length xs → x ≡ f t → ((j : ℕ) → j < t → slice_index xs j ≡ f j) → (j : ℕ) → j < t + 1 → slice_index (set xs t x) j ≡ f j
written f xs t x within is before j h =
    ⊎_elim
    (λ (b : j < t). get_or-set_other xs t j x 0 (λ e. omega arith) ∙ before j b)
    (λ (b : t ≤ j). let e : j ≡ t = omega arith in ap (slice_index (set xs t x)) e ∙ get_or-set_same xs t x 0 within ∙ is ∙ ap f (sym e))
    (cases_lt j t)
