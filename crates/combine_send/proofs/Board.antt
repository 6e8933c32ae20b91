-- The slots of a send are what a board asks for.
use Rattle.std.proofs.Common.{◌≡◌, ℕ, suc, ◌+◌, ◌<◌, ◌≤◌, List, [], ◌∷◌, get_or, Option, Some, None, subst, arith}
use Rattle.std.specs.Prelude.{IfSome}
use Rattle.std.proofs.lemmas.List.{get_or_default}
use Rattle.combine_core.specs.declared.message.Message.{Message}
use Rattle.combine_core.specs.Cells.{RisesFrom, TargetsBelow}
use Rattle.paris_code.specs.declared.operands.Field.{Field}
use Rattle.paris_code.specs.Memory.{BitMemory}
use Rattle.paris_code.specs.Shapes.{SetShape}
use Rattle.combine_send.specs.Slots.{IsSlot, AreSlotsFrom}

module _ (shapes : List SetShape) (m : BitMemory) (address source : Field) (count : ℕ) where
  -- the first slot, and the others
  pub first_slot : (from : ℕ) (o : Option Message) (slots : List (Option Message)) → AreSlotsFrom shapes m address source count from (o ∷ slots) → IsSlot shapes m address source count from o
  first_slot from o slots are = subst (λ s. IsSlot shapes m address source count s o) (let e : from + 0 ≡ from = omega arith in e) (are 0 (omega arith))

  pub later_slots : (from : ℕ) (o : Option Message) (slots : List (Option Message)) → AreSlotsFrom shapes m address source count from (o ∷ slots) → AreSlotsFrom shapes m address source count (suc from) slots
  later_slots from o slots are = λ k b. subst (λ s. IsSlot shapes m address source count s (get_or slots k None)) (let e : from + suc k ≡ suc from + k = omega arith in e) (are (suc k) (omega arith))

  -- the senders rise
  pub rises_from : (low from : ℕ) (slots : List (Option Message)) → low ≤ from → AreSlotsFrom shapes m address source count from slots → RisesFrom low slots
  rises_from low from [] h are = tt
  rises_from low from (None ∷ slots) h are = rises_from low (suc from) slots (omega arith) (later_slots from None slots are)
  rises_from low from (Some message ∷ slots) h are =
      let here : IsSlot shapes m address source count from (Some message) = first_slot from (Some message) slots are in
      (omega (arith, here.1), rises_from (message.sender + 1) (suc from) slots (omega (arith, here.1)) (later_slots from (Some message) slots are))

  -- the targets are processors
  target_below : (sender : ℕ) (o : Option Message) → IsSlot shapes m address source count sender o → IfSome o (λ message. message.target < count)
  target_below sender None is = tt
  target_below sender (Some message) is = is.4

  pub targets_below : (slots : List (Option Message)) → AreSlotsFrom shapes m address source count 0 slots → TargetsBelow count slots
  targets_below slots are = λ k o b. target_below (0 + k) (get_or slots k o) (subst (λ x. IsSlot shapes m address source count (0 + k) x) (get_or_default slots k None o b) (are k b))
