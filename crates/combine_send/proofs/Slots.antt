-- What a board folds is what the send means.
use Rattle.std.proofs.Common.{◌≡◌, ℕ, zero, suc, ◌+◌, ◌<◌, Bool, true, false, ◌&&◌, cond, eqb, ltb, List, [], ◌∷◌, reverse, length, Option, Some, None, refl, sym, ◌∙◌, ap, inl, inr, arith}
use Rattle.std.specs.Prelude.{fold}
use Rattle.std.proofs.lemmas.Bool.{cases_eq, cases_Bool, cases_lt, ne_eqb, lt-ltb}
use Rattle.std.proofs.lemmas.List.{reverse-append}
use Rattle.std.proofs.lemmas.List.Sums.{fold-append}
use Rattle.cstar_base.specs.declared.operators.Winner.{Winner}
use Rattle.cstar_base.specs.declared.operators.Winner.TheVariants as W
use Rattle.cstar_base.specs.Folds.{fold_once}
use Rattle.cstar_base.specs.Numbers.{residue}
use Rattle.cstar_base.specs.Orders.{fold_below, greatest_below, least_below}
use Rattle.cstar_base.proofs.OperatorLaws.{sum_by_residues}
use Rattle.combine_core.specs.declared.message.Message.{Message}
use Rattle.combine_core.specs.Cells.{values_to}
use Rattle.combine_core.specs.Encodings as E
use Rattle.combine_core.specs.Folded.{fold_values, folded}
use Rattle.paris_code.specs.declared.operands.Field.{Field}
use Rattle.paris_code.specs.declared.operands.Reduction.{Reduction}
use Rattle.paris_code.specs.declared.operands.Reduction.TheVariants as R
use Rattle.paris_code.specs.Memory.{BitMemory, field_number, whole_number, is_active, processors}
use Rattle.paris_code.specs.Operators.{combiner_of}
use Rattle.paris_code.specs.Sending.{sends_to, winner_of, combined}
use Rattle.paris_code.specs.Shapes.{SetShape}
use Rattle.phase_meaning.proofs.Rising.{least_none, least_some}
use Rattle.combine_send.specs.Slots.{IsSlot, AreSlotsFrom, kind_of, kind_for}
use Rattle.combine_send.proofs.Board.{first_slot, later_slots}

-- one step of a fold whose sender sends, or does not
taken_step : (f : ℕ → ℕ → ℕ) (t : Bool) (a v x : ℕ) (vs : List ℕ) → v ≡ x → fold f a (cond t (v ∷ vs) vs) ≡ fold f (cond t (f a x) a) vs
taken_step f true a v x vs e = ap (λ y. fold f (f a y) vs) e
taken_step f false a v x vs e = refl

-- the word that stays at home where no message comes
abbrev pub or_home : ℕ → BitMemory → Field → Option ℕ → ℕ
or_home home m a None = home
or_home home m a (Some s) = field_number m a s

abbrev first_or : ℕ → List ℕ → ℕ
first_or home [] = home
first_or home (v ∷ vs) = v

module _ (shapes : List SetShape) (m : BitMemory) (address source : Field) (count t : ℕ) (inside : t < count) where
  -- an empty slot sends nothing to a processor that there is
  empty_slot : (s : ℕ) → (is_active shapes m address.set s && ltb (field_number m address s) count) ≡ false → sends_to shapes m address t s ≡ false
  unfolding sends_to
  empty_slot s none = elim (cases_eq (field_number m address s) t) [
    | inr n ↦ ap (λ b. is_active shapes m address.set s && b) (ne_eqb (field_number m address s) t n) ∙ off (is_active shapes m address.set s)
    | inl e ↦
        let there : ltb (field_number m address s) count ≡ true = lt-ltb (field_number m address s) count (omega arith) in
        let quiet : is_active shapes m address.set s ≡ false = sym (on (is_active shapes m address.set s)) ∙ sym (ap (λ b. is_active shapes m address.set s && b) there) ∙ none in
        ap (λ b. b && eqb (field_number m address s) t) quiet
  ]
    where
      off : (b : Bool) → (b && false) ≡ false
      off true = refl
      off false = refl

      on : (b : Bool) → (b && true) ≡ b
      on true = refl
      on false = refl

  full_slot : (s : ℕ) (message : Message) → IsSlot shapes m address source count s (Some message) → sends_to shapes m address t s ≡ eqb message.target t
  unfolding sends_to
  full_slot s message is = ap (λ b. b && eqb (field_number m address s) t) is.0 ∙ ap (λ n. eqb n t) (sym is.2)

  -- the values to a target, folded in the order of the slots
  slots_folded : (f : ℕ → ℕ → ℕ) (start from : ℕ) (slots : List (Option Message)) → AreSlotsFrom shapes m address source count from slots
      → fold f (fold_below f (λ s. sends_to shapes m address t s) (λ s. field_number m source s) start from) (values_to t slots) ≡ fold_below f (λ s. sends_to shapes m address t s) (λ s. field_number m source s) start (from + length slots)
  unfolding fold_below
  slots_folded f start from [] are = ap (fold_below f (λ s. sends_to shapes m address t s) (λ s. field_number m source s) start) (let e : from ≡ from + 0 = omega arith in e)
  slots_folded f start from (None ∷ slots) are =
      let so_far : ℕ = fold_below f (λ s. sends_to shapes m address t s) (λ s. field_number m source s) start from in
      ap (λ b. fold f (cond b (f so_far (field_number m source from)) so_far) (values_to t slots)) (sym (empty_slot from (first_slot shapes m address source count from None slots are)))
      ∙ slots_folded f start (suc from) slots (later_slots shapes m address source count from None slots are)
      ∙ ap (fold_below f (λ s. sends_to shapes m address t s) (λ s. field_number m source s) start) (let e : suc from + length slots ≡ from + suc (length slots) = omega arith in e)
  slots_folded f start from (Some message ∷ slots) are =
      let so_far : ℕ = fold_below f (λ s. sends_to shapes m address t s) (λ s. field_number m source s) start from in
      let here : IsSlot shapes m address source count from (Some message) = first_slot shapes m address source count from (Some message) slots are in
      taken_step f (eqb message.target t) so_far message.value (field_number m source from) (values_to t slots) here.3
      ∙ ap (λ b. fold f (cond b (f so_far (field_number m source from)) so_far) (values_to t slots)) (sym (full_slot from message here))
      ∙ slots_folded f start (suc from) slots (later_slots shapes m address source count from (Some message) slots are)
      ∙ ap (fold_below f (λ s. sends_to shapes m address t s) (λ s. field_number m source s) start) (let e : suc from + length slots ≡ from + suc (length slots) = omega arith in e)

  -- the first value to a target is that of its least sender
  none_more : (from : ℕ) → ((k : ℕ) → k < from → sends_to shapes m address t k ≡ false) → sends_to shapes m address t from ≡ false → (k : ℕ) → k < suc from → sends_to shapes m address t k ≡ false
  none_more from none off k b = elim (cases_lt k from) [
    | inl l ↦ none k l
    | inr g ↦ ap (sends_to shapes m address t) (let e : k ≡ from = omega arith in e) ∙ off
  ]

  first_is : (home from n : ℕ) (slots : List (Option Message)) → AreSlotsFrom shapes m address source count from slots → from + length slots ≡ n → ((k : ℕ) → k < from → sends_to shapes m address t k ≡ false)
      → first_or home (values_to t slots) ≡ or_home home m source (least_below (λ s. sends_to shapes m address t s) n)
  first_is home from n [] are long none = sym (ap (or_home home m source) (least_none (λ s. sends_to shapes m address t s) n (λ k b. none k (omega (arith, long)))))
  first_is home from n (None ∷ slots) are long none =
      first_is home (suc from) n slots (later_slots shapes m address source count from None slots are) (omega (arith, long))
      (none_more from none (empty_slot from (first_slot shapes m address source count from None slots are)))
  first_is home from n (Some message ∷ slots) are long none =
      let here : IsSlot shapes m address source count from (Some message) = first_slot shapes m address source count from (Some message) slots are in
      elim (cases_Bool (eqb message.target t)) [
        | inl on ↦
            ap (λ b. first_or home (cond b (message.value ∷ values_to t slots) (values_to t slots))) on ∙ here.3
            ∙ sym (ap (or_home home m source) (least_some (λ s. sends_to shapes m address t s) n from (omega (arith, long)) (full_slot from message here ∙ on) none))
        | inr off ↦
            ap (λ b. first_or home (cond b (message.value ∷ values_to t slots) (values_to t slots))) off
            ∙ first_is home (suc from) n slots (later_slots shapes m address source count from (Some message) slots are) (omega (arith, long)) (none_more from none (full_slot from message here ∙ off))
      ]

-- the step of the board's kind is the combiner's
same_step : (c : Reduction) (a v : ℕ) → fold_once (E.combiner_of (kind_of c)).0 (E.combiner_of (kind_of c)).1 a v ≡ fold_once (combiner_of c).0 (combiner_of c).1 a v
unfolding fold_once
same_step R.SAdd a v = sum_by_residues 32 true a v ∙ sym (sum_by_residues 32 false a v)
same_step R.Logand a v = refl
same_step R.Logior a v = refl
same_step R.Logxor a v = refl
same_step R.SMin a v = refl
same_step R.UMin a v = refl
same_step R.SMax a v = refl
same_step R.UMax a v = refl

fold_with : (f g : ℕ → ℕ → ℕ) (a : ℕ) (vs : List ℕ) → ((x v : ℕ) → f x v ≡ g x v) → fold f a vs ≡ fold g a vs
fold_with f g a [] e = refl
fold_with f g a (v ∷ vs) e = ap (λ x. fold f x vs) (e a v) ∙ fold_with f g (g a v) vs e

ascends : (c : Reduction) → E.is_descending (kind_of c) ≡ false
ascends R.SAdd = refl
ascends R.Logand = refl
ascends R.Logior = refl
ascends R.Logxor = refl
ascends R.SMin = refl
ascends R.UMin = refl
ascends R.SMax = refl
ascends R.UMax = refl

-- the word of a target after a send with a combiner
pub combined_is : (shapes : List SetShape) (m : BitMemory) (c : Reduction) (d address source : Field) (signed : Bool) (count t : ℕ) (slots : List (Option Message)) → t < count
    → AreSlotsFrom shapes m address source count 0 slots → length slots ≡ processors shapes address.set
    → folded (kind_of c) t (residue 32 (whole_number m signed d t)) slots ≡ combined shapes m c d signed address source t
unfolding combined fold_below
combined_is shapes m c d address source signed count t slots inside are long =
    let home : ℕ = residue 32 (whole_number m signed d t) in
    let f : ℕ → ℕ → ℕ = λ a v. fold_once (combiner_of c).0 (combiner_of c).1 a v in
    ap (λ b. fold_values (kind_of c) home (cond b (reverse (values_to t slots)) (values_to t slots))) (ascends c)
    ∙ fold_with (λ a v. fold_once (E.combiner_of (kind_of c)).0 (E.combiner_of (kind_of c)).1 a v) f home (values_to t slots) (same_step c)
    ∙ slots_folded shapes m address source count t inside f home 0 slots are
    ∙ ap (fold_below f (λ s. sends_to shapes m address t s) (λ s. field_number m source s) home) (let e : 0 + length slots ≡ processors shapes address.set = omega (arith, long) in e)

-- the last value in rising order is that of the greatest sender
last_choice : (home : ℕ) (m : BitMemory) (a : Field) (b : Bool) (s x : ℕ) (o : Option ℕ) → x ≡ or_home home m a o → cond b (field_number m a s) x ≡ or_home home m a (cond b (Some s) o)
last_choice home m a true s x o e = refl
last_choice home m a false s x o e = e

last_is : (home : ℕ) (m : BitMemory) (a : Field) (f : ℕ → Bool) (n : ℕ) → fold_below (λ total v. v) f (λ s. field_number m a s) home n ≡ or_home home m a (greatest_below f n)
unfolding fold_below greatest_below
last_is home m a f zero = refl
last_is home m a f (suc n) = last_choice home m a (f n) n (fold_below (λ total v. v) f (λ s. field_number m a s) home n) (greatest_below f n) (last_is home m a f n)

-- the last value of a list that is turned round is its first
turned : (home : ℕ) (vs : List ℕ) → fold (λ total v. v) home (reverse vs) ≡ first_or home vs
turned home [] = refl
turned home (v ∷ vs) = ap (fold (λ total x. x) home) (reverse-append (v ∷ []) vs) ∙ fold-append (λ total x. x) home (reverse vs) (v ∷ [])

-- the word of a target after a send without one
pub overwritten_is : (shapes : List SetShape) (m : BitMemory) (winner : Winner) (home : ℕ) (address source : Field) (count t : ℕ) (slots : List (Option Message)) → t < count
    → AreSlotsFrom shapes m address source count 0 slots → length slots ≡ processors shapes address.set
    → folded (kind_for None winner) t home slots ≡ or_home home m source (winner_of winner (λ s. sends_to shapes m address t s) (processors shapes address.set))
unfolding fold_once fold_below
overwritten_is shapes m W.High home address source count t slots inside are long =
    slots_folded shapes m address source count t inside (λ a v. v) home 0 slots are
    ∙ ap (fold_below (λ a v. v) (λ s. sends_to shapes m address t s) (λ s. field_number m source s) home) (let e : 0 + length slots ≡ processors shapes address.set = omega (arith, long) in e)
    ∙ last_is home m source (λ s. sends_to shapes m address t s) (processors shapes address.set)
overwritten_is shapes m W.Low home address source count t slots inside are long =
    turned home (values_to t slots)
    ∙ first_is shapes m address source count t inside home 0 (processors shapes address.set) slots are (omega (arith, long)) (λ k b. absurd (omega arith))
