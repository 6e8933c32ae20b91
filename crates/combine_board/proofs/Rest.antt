-- What the deliveries that are left of a claim make of its worker.
use Rattle.std.proofs.Common.{◌≡◌, ℕ, ◌+◌, ◌-◌, ◌*◌, ◌<◌, ◌≤◌, min, false, is_some, List, ◌∷◌, take, drop, length, get_or, slice_get, option_map, Option, Some, None, refl, sym, ap, ◌∙◌, inl, inr, arith}
use Rattle.std.proofs.lemmas.Bool.{cases_lt}
use Rattle.std.proofs.lemmas.List.{take_all, length-drop}
use Rattle.std.proofs.lemmas.Option.{get_or_from_slice_get, slice_get-get_or}
use Rattle.atomic_table.specs.Table.{Me}
use Rattle.combine_core.specs.declared.message.Message.{Message}
use Rattle.combine_core.specs.declared.worker.Held.{Held}
use Rattle.combine_core.specs.declared.worker.Worker.{Worker}
use Rattle.combine_core.specs.Machine.{held, first_message, next_in}
use Rattle.combine_core.proofs.Ahead.{first_message-more, first_message_not_here}
use Rattle.combine_board.specs.declared.view.View.{View}
use Rattle.combine_board.specs.Values.{with_last, with_passed}
use Rattle.combine_board.specs.Rule.{view_with, delivered_by, delivered_view}

-- a list has no more elements than there are
take_less : {X : Type 0} (xs : List X) (n m : ℕ) → m ≡ min n (length xs) → take n xs ≡ take m xs
take_less xs n m e = elim (cases_lt (length xs) n) [
  | inl l ↦ take_all n xs (omega arith) ∙ sym (take_all m xs (omega arith))
  | inr g ↦ ap (λ k. take k xs) (let k : n ≡ m = omega arith in k)
]

-- the first message that is left, where the slots of the claim end
pub next_up_to : (os : List (Option Message)) (c p to : ℕ) → p ≤ 512 → 512 * c + p ≤ length os → to ≡ min (length os) (512 * c + 512)
    → next_in os (held c p) ≡ first_message (512 * c + p) (take (to - (512 * c + p)) (drop (512 * c + p) os))
next_up_to os c p to small within end =
    let at : ℕ = 512 * c + p in
    ap (first_message at) (take_less (drop at os) (512 - p) (to - at) (let l = length-drop at os in omega arith))

-- behind a delivery
pub rest_ahead : (os : List (Option Message)) (c p i to : ℕ) → p ≡ i + 1 - 512 * c → 512 * c ≤ i → i < to → to ≡ min (length os) (512 * c + 512)
    → next_in os (held c p) ≡ first_message (i + 1) (take (to - (i + 1)) (drop (i + 1) os))
rest_ahead os c p i to is behind below end =
    next_up_to os c p to (omega arith) (omega arith) end ∙ ap (λ n. first_message n (take (to - n) (drop n os))) (let e : 512 * c + p ≡ i + 1 = omega arith in e)

-- what was ahead is delivered
pub rest_delivered : (v : View) (x : List (ℕ × ℕ)) (me new : Me ℕ View) (last : Held) (c p i : ℕ) → me ≡ (view_with v (with_last last v.worker), x) → next_in v.slots last ≡ Some i → new ≡ (delivered_view me.0, me.1)
    → last.claim ≡ c → p ≡ i + 1 - 512 * c → new ≡ (view_with v (with_last (held c p) v.worker), x)
rest_delivered v x me new last c p i is next done claim passed =
    done ∙ ap (λ m. (delivered_view m.0, m.1)) is ∙ ap (λ o. (delivered_by (view_with v (with_last last v.worker)) o, x)) next
    ∙ ap (λ n. (view_with v (with_last (held n (i + 1 - 512 * n)) v.worker), x)) claim ∙ ap (λ n. (view_with v (with_last (held c n) v.worker), x)) (sym passed)

-- the next slot has a message, which is ahead
pub rest_next : (os : List (Option Message)) (i to : ℕ) (m : Message) → i < to → to ≤ length os → slice_get os i ≡ Some (Some m) → first_message i (take (to - i) (drop i os)) ≡ Some i
rest_next os i to m below within slot =
    first_message-more os i to None below within ∙ ap (λ o. first_message i (o ∷ take (to - (i + 1)) (drop (i + 1) os))) (get_or_from_slice_get os i (Some m) None slot)

is_empty : (o : Option Message) → ((m : Message) → o ≡ Some m → ⊥) → is_some o ≡ false
is_empty None not = refl
is_empty (Some m) not = absurd (not m refl)

-- the next slot has none
pub rest_empty : (os : List (Option Message)) (i to : ℕ) → i < to → to ≤ length os → ((m : Message) → slice_get os i ≡ Some (Some m) → ⊥)
    → first_message i (take (to - i) (drop i os)) ≡ first_message (i + 1) (take (to - (i + 1)) (drop (i + 1) os))
rest_empty os i to below within not =
    let o : Option Message = get_or os i None in
    first_message-more os i to None below within
    ∙ first_message_not_here i o (take (to - (i + 1)) (drop (i + 1) os)) (is_empty o (λ m e. not m (slice_get-get_or os i None (omega arith) ∙ ap Some e)))

-- the claim that was taken last is still that claim
pub passed_in_last : (w : Worker) (h r : Held) → w.last ≡ Some h → r.claim ≡ h.claim → with_last r w ≡ with_passed r.passed w
passed_in_last w h r is_last same =
    let last : Some r ≡ option_map (λ (x : Held). held x.claim r.passed) w.last = ap (λ n. Some (held n r.passed)) same ∙ ap (option_map (λ (x : Held). held x.claim r.passed)) (sym is_last) in
    ap (λ o. record { live = w.live; last = o; others = w.others; number = w.number; misses = w.misses; draws = w.draws }) last
