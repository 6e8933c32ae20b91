-- Messages combined at once, sender by sender.
use Rattle.std.proofs.Common.{◌≡◌, ℕ, suc, ◌+◌, ◌-◌, ◌^◌, ◌<◌, true, List, [], ◌∷◌, ◌++◌, length, get_or, map, Option, Some, None, refl, sym, ◌∙◌, ap, subst, inl, inr, arith}
use Rattle.std.specs.Prelude.{slice_index, IfSome}
use Rattle.std.proofs.lemmas.Bool.{cases_lt}
use Rattle.std.proofs.lemmas.List.{length-append, get_or_append_left, get_or-append_right, get_or-map, length-map}
use Rattle.cstar_base.specs.declared.operators.Winner.{Winner}
use Rattle.cstar_base.specs.Numbers.{residue}
use Rattle.cstar_base.proofs.NumberLaws.{residue_below}
use Rattle.combine_core.specs.declared.kind.Kind.{Kind}
use Rattle.combine_core.specs.declared.message.Message.{Message}
use Rattle.combine_core.specs.Cells.{gathered, taken}
use Rattle.combine_core.specs.Encodings.{encoded_home, decoded}
use Rattle.combine_core.proofs.Folds.{decoded_folded, decoded_fits}
use Rattle.combine_board.specs.Values.{Plan}
use Rattle.paris_code.specs.declared.operands.Field.{Field}
use Rattle.paris_code.specs.Memory.{processors, whole_number}
use Rattle.paris_code.specs.Shapes.{bits_at}
use Rattle.block_store.specs.declared.store.Store.{Store}
use Rattle.block_store.specs.Stored.{blocks_at, shapes_in, memory_in, stored}
use Rattle.combine_send.specs.declared.send.Send.{Send}
use Rattle.combine_send.specs.declared.senders.Senders.{Senders}
use Rattle.combine_send.specs.Alone.{after_all, AreCombined, AreSendersOf, AreWordsOf, HasCombined}
use Rattle.combine_send.specs.Senders.{Sends, IsSlotOf}
use Rattle.combine_send.specs.Sends.{SendFits}
use Rattle.combine_send.specs.Slots.{IsSlot, AreSlotsFrom, kind_for}
use Rattle.combine_send.proofs.Board.{rises_from}
use Rattle.combine_send.proofs.Filled.{slot_is}

-- where all messages count, a cell does not rest on their numbers
gathered_at : (k : Kind) (t i j a : ℕ) (os : List (Option Message)) → gathered k (λ _. true) t i a os ≡ gathered k (λ _. true) t j a os
gathered_at k t i j a [] = refl
gathered_at k t i j a (o ∷ os) = gathered_at k t (suc i) (suc j) (taken k true t a o) os

gathered_on : (k : Kind) (t i a : ℕ) (xs ys : List (Option Message)) → gathered k (λ _. true) t i a (xs ++ ys) ≡ after_all k t (gathered k (λ _. true) t i a xs) ys
gathered_on k t i a [] ys = gathered_at k t i 0 a ys
gathered_on k t i a (x ∷ xs) ys = gathered_on k t (suc i) (taken k true t a x) xs ys

-- a message of a sender goes to a target that there is
pub target_fits : (active : _) (s t v count : ℕ) (slot : Option Message) → Sends active s t v count slot → IfSome slot (λ message. message.target < count)
target_fits active s t v count None sends = tt
target_fits active s t v count (Some message) sends = sends.4

module _ (kind : Kind) (senders : Senders) where
  pub none_combined : (from : ℕ) (cells : List ℕ) → HasCombined kind senders from 0 cells cells
  none_combined from cells = record {
    slots = [];
    each = refl;
    are = λ j h. absurd (omega arith);
    wide = refl;
    cells = λ t h. refl;
  }

  pub one_combined : (s : ℕ) (slot : Option Message) (old new : List ℕ) → IsSlotOf senders s slot → length new ≡ length old
      → ((t : ℕ) → t < length old → slice_index new t ≡ taken kind true t (slice_index old t) slot) → HasCombined kind senders s 1 old new
  one_combined s slot old new is wide cells = record {
    slots = slot ∷ [];
    each = refl;
    are = λ j h. subst (λ n. IsSlotOf senders (s + n) (get_or (slot ∷ []) n None)) (let e : 0 ≡ j = omega arith in e) (subst (λ x. IsSlotOf senders x slot) (let e : s ≡ s + 0 = omega arith in e) is);
    wide = wide;
    cells = cells;
  }

  -- those of more senders are combined behind them
  pub then_combined : (from next n m : ℕ) (old mid new : List ℕ) → next ≡ from + n → HasCombined kind senders from n old mid → HasCombined kind senders next m mid new
      → HasCombined kind senders from (n + m) old new
  then_combined from next n m old mid new at a b = record {
    slots = a.slots ++ b.slots;
    each = length-append a.slots b.slots ∙ (let e : length a.slots + length b.slots ≡ n + m = omega (arith, a.each, b.each) in e);
    are = λ j h. elim (cases_lt j n) [
      | inl l ↦ subst (IsSlotOf senders (from + j)) (sym (get_or_append_left a.slots b.slots None j (omega (arith, l, a.each)))) (a.are j l)
      | inr g ↦
          subst (IsSlotOf senders (from + j)) (sym (get_or-append_right a.slots b.slots n j None a.each g))
          (subst (λ s. IsSlotOf senders s (get_or b.slots (j - n) None)) (let e : next + (j - n) ≡ from + j = omega (arith, at, g) in e) (b.are (j - n) (omega (arith, g, h))))
    ];
    wide = b.wide ∙ a.wide;
    cells = λ t h. b.cells t (omega (arith, h, a.wide)) ∙ ap (λ x. after_all kind t x b.slots) (a.cells t h) ∙ sym (gathered_on kind t 0 (slice_index old t) a.slots b.slots);
  }

  -- cells that begin with the home words
  module _ (count : ℕ) (home cells : List ℕ) (all : HasCombined kind senders 0 count (map (encoded_home kind) home) cells) where
    pub cells_wide : length cells ≡ length home
    cells_wide = all.wide ∙ length-map home (encoded_home kind)

    cell_is : (t : ℕ) → t < length home → slice_index cells t ≡ after_all kind t (encoded_home kind (slice_index home t)) all.slots
    cell_is t h =
        all.cells t (omega (arith, h, length-map home (encoded_home kind)))
        ∙ ap (λ a. after_all kind t a all.slots) (get_or-map (encoded_home kind) home t 0 0 h)

    pub cell_fits : (t : ℕ) → t < length home → slice_index home t < 2 ^ 32 → decoded kind (slice_index home t) (slice_index cells t) < 2 ^ 32
    cell_fits t h small = subst (λ x. decoded kind (slice_index home t) x < 2 ^ 32) (sym (cell_is t h)) (decoded_fits kind t (slice_index home t) all.slots small)

    pub all_combined : (words : List ℕ) → length words ≡ length home → ((t : ℕ) → t < length home → slice_index words t ≡ decoded kind (slice_index home t) (slice_index cells t))
        → AreCombined kind senders count home words
    all_combined words wide are = record {
      slots = all.slots;
      each = all.each;
      are = λ j h. subst (λ s. IsSlotOf senders s (get_or all.slots j None)) (let e : 0 + j ≡ j = omega arith in e) (all.are j h);
      wide = wide;
      words = λ t h. are t h ∙ ap (decoded kind (slice_index home t)) (cell_is t h);
    }

-- slots filled by the planes of the senders' blocks are those of the send
pub slots_are : (store : Store) (send : Send) (senders : Senders) (winner : Winner) (slots : List (Option Message)) → AreSendersOf store send senders → SendFits (shapes_in store) send
    → ((k : ℕ) → k < length slots → IsSlotOf senders k (get_or slots k None))
    → AreSlotsFrom (shapes_in store) (memory_in store winner) send.address send.source (processors (shapes_in store) send.dest.set) 0 slots
slots_are store send senders winner slots of fits are = λ k b.
    let shapes = shapes_in store in
    let m = memory_in store winner in
    let slot = get_or slots k None in
    let here : IsSlot shapes m senders.address senders.source senders.targets k slot =
    slot_is shapes store.sets.items winner senders k slot (of.blocks ∙ ap (λ (f : Field). blocks_at store.sets.items f.set) (sym of.address))
    (of.context ∙ ap (λ (f : Field). bits_at shapes f.set) (sym of.address))
    (ap (λ (f : Field). f.set) of.source ∙ fits.4 ∙ ap (λ (f : Field). f.set) (sym of.address)) (are k b) in
    subst (λ s. IsSlot shapes m send.address send.source (processors shapes send.dest.set) s slot) (let e : k ≡ 0 + k = omega arith in e)
    (subst (λ n. IsSlot shapes m send.address send.source n k slot) of.targets
    (subst (λ (f : Field). IsSlot shapes m send.address f senders.targets k slot) of.source
    (subst (λ (f : Field). IsSlot shapes m f senders.source senders.targets k slot) of.address here)))

-- the words of a board about the send
pub are_words : (store : Store) (send : Send) (senders : Senders) (winner : Winner) (kind : Kind) (count : ℕ) (home words : List ℕ)
    → AreSendersOf store send senders → SendFits (shapes_in store) send → kind ≡ kind_for send.combiner winner
    → count ≡ processors (shapes_in store) send.address.set → length home ≡ processors (shapes_in store) send.dest.set
    → ((t : ℕ) → t < processors (shapes_in store) send.dest.set → slice_index home t ≡ residue 32 (whole_number (memory_in store winner) send.kind.signed send.dest t))
    → AreCombined kind senders count home words → AreWordsOf (shapes_in store) (memory_in store winner) send words
unfolding stored
are_words store send senders winner kind count home words of fits is many long own done =
    let shapes = shapes_in store in
    let m = memory_in store winner in
    let plan : Plan = record { kind = kind; slots = done.slots; home = home } in
    let slots : AreSlotsFrom shapes m send.address send.source (processors shapes send.dest.set) 0 done.slots =
    slots_are store send senders winner done.slots of fits (λ k b. done.are k (omega (arith, b, done.each))) in
    record {
      plan = plan;
      is = record { kind = is; senders = done.each ∙ many; slots = slots; targets = long; home = own };
      wide = done.wide;
      folds = λ t b.
          done.words t b
          ∙ decoded_folded kind t (slice_index home t) done.slots
          (subst (λ x. x < 2 ^ 32) (sym (own t (omega (arith, b, long)))) (residue_below 32 _))
          (rises_from shapes m send.address send.source (processors shapes send.dest.set) 0 0 done.slots (omega arith) slots);
    }
