-- The machine's sends are the language's.
use Rattle.std.proofs.Common.{◌≡◌, ℕ, ◌<◌, ◌^◌, ◌%◌, Bool, true, false, not, List, Option, Some, None, ◌∙◌, sym, ap, subst, refl, arith}
use Rattle.std.specs.Prelude.{◌==◌, ◌&&◌, ◌||◌, nat_lt, is_some, pos, neg_ℤ}
use Rattle.cstar_base.specs.declared.elem.Elem.{Elem}
use Rattle.cstar_base.specs.declared.operators.Op.{Op}
use Rattle.cstar_base.specs.declared.operators.Op.TheVariants as O
use Rattle.cstar_base.specs.declared.operators.Winner.{Winner}
use Rattle.cstar_base.specs.declared.operators.Winner.TheVariants as W
use Rattle.cstar_base.specs.Folds.{fold_once}
use Rattle.cstar_base.specs.Numbers.{converted, number_of, residue}
use Rattle.cstar_base.specs.Orders.{fold_below}
use Rattle.cstar_base.proofs.FoldLaws.{fold_once_below}
use Rattle.cstar_base.proofs.NumberLaws.{residue_below}
use Rattle.cstar_tree.specs.declared.syntax.AssignOp.{AssignOp}
use Rattle.cstar_tree.specs.declared.syntax.AssignOp.TheVariants as A
use Rattle.cstar_tree.specs.Operations.{folds}
use Rattle.lower_base.specs.Operators.{assign_op_of, fold_of, is_signed}
use Rattle.paris_code.specs.declared.operands.Field.{Field}
use Rattle.paris_code.specs.declared.operands.Reduction.{Reduction}
use Rattle.paris_code.specs.Memory.{BitMemory, field_number, processors, whole_number}
use Rattle.paris_code.specs.Operators.{combiner_of}
use Rattle.paris_code.specs.Sending.{combined, message_or_zero, winner_of, winning_sender, word_kind}
use Rattle.paris_code.specs.Sending as Machine
use Rattle.paris_code.specs.Shapes.{SetShape}
use Rattle.source_meaning.specs.Reductions.{folded_into, step_of}
use Rattle.source_meaning.specs.Sends.{Send, is_sent_to, received, value_or}
use Rattle.source_meaning.specs.Sends as Language
use Rattle.communication_laws.specs.Holding.{HasNumbers}
use Rattle.communication_laws.specs.Sends.{HaveBits, CombiningSendsAreTheLanguages, HasTargets, OverwritingSendsAreTheLanguages, SentTargetsAreTheLanguages, sent_word}
use Rattle.communication_laws.proofs.Combining.{combines_as}
use Rattle.communication_laws.proofs.Conversions.{converted_alike, converted_below, wide_converted}
use Rattle.communication_laws.proofs.Orders.{fold_alike, fold_few}
use Rattle.communication_laws.proofs.Winners.{some_winner, winner_alike, winner_sends}

winner_is : (w : Winner) (send : Send) (target : ℕ) → Language.winning_sender w send target ≡ winner_of w (λ sender. Language.sends_to send target sender) send.count
unfolding Language.winning_sender
winner_is W.High send target = refl
winner_is W.Low send target = refl

first_of : (s t : Bool) → (s && t) ≡ true → s ≡ true
first_of true t is = refl
first_of false t is = is

sender_active : (send : Send) (target k : ℕ) → Language.sends_to send target k ≡ true → send.active k ≡ true
unfolding Language.sends_to
sender_active send target k on = first_of (send.active k) (send.to k == target) on

-- with an operator a target receives the fold
received_is : (w : Winner) (op : AssignOp) (to from : Elem) (send : Send) (old target : ℕ) → folds op ≡ true
    → received w op to from send old target ≡ folded_into op to from old (λ sender. Language.sends_to send target sender) send.value send.count
unfolding received
received_is w A.Set to from send old target is = cc
received_is w _ to from send old target is = refl

sent_few : (operator : Op) (word : ℕ) → word < 2 ^ 32 → sent_word operator word < 2 ^ 32
sent_few O.Sub word few = residue_below 32 (neg_ℤ (pos word))
sent_few _ word few = few

module _ (shapes : List SetShape) (m : BitMemory) (address : Field) (send : Send) (h : HasTargets shapes m address send) (target : ℕ) where
  inside : (k : ℕ) → k < send.count → k < processors shapes address.set
  inside k b = omega (arith, b, h.count)

  -- the senders of the machine are those of the language
  sends_alike : (k : ℕ) → k < send.count → Machine.sends_to shapes m address target k ≡ Language.sends_to send target k
  unfolding Machine.sends_to Language.sends_to
  sends_alike k b = ap (λ t. t && (field_number m address k == target)) (h.active k (inside k b)) ∙ by (send.active k) refl
    where
      by : (t : Bool) → send.active k ≡ t → (t && (field_number m address k == target)) ≡ (t && (send.to k == target))
      by true on = ap (λ n. n == target) (h.targets k (inside k b) on)
      by false on = refl

  same_winner : winning_sender shapes m address target ≡ winner_of m.winner (λ sender. Language.sends_to send target sender) send.count
  unfolding winning_sender
  same_winner = ap (winner_of m.winner (λ sender. Machine.sends_to shapes m address target sender)) h.count ∙ winner_alike m.winner _ _ send.count sends_alike

  pub target_is : is_some (winning_sender shapes m address target) ≡ is_sent_to send target
  unfolding is_sent_to
  target_is = ap is_some same_winner ∙ some_winner m.winner (λ sender. Language.sends_to send target sender) send.count

  -- the value of a winner has no more bits than the values
  pub received_few : (bits : ℕ) → HaveBits bits send → (to from : Elem) (old : ℕ) → is_sent_to send target ≡ true → received m.winner A.Set to from send old target < 2 ^ bits
  unfolding received
  received_few bits few to from old sent =
      subst (λ (o : Option ℕ). value_or old send.value o < 2 ^ bits) (sym (winner_is m.winner send target)) (by (winner_of m.winner (λ sender. Language.sends_to send target sender) send.count) refl)
    where
      by : (o : Option ℕ) → winner_of m.winner (λ sender. Language.sends_to send target sender) send.count ≡ o → value_or old send.value o < 2 ^ bits
      by None is = let none : is_sent_to send target ≡ false = sym target_is ∙ ap is_some (same_winner ∙ is) in cc
      by (Some k) is = let sends = winner_sends m.winner (λ sender. Language.sends_to send target sender) send.count k is in few k sends.0 (sender_active send target k sends.1)

  module _ (a : Field) (of : a.set ≡ address.set) where
    within : (k : ℕ) → k < send.count → k < processors shapes a.set
    within k b = subst (λ (set : ℕ). k < processors shapes set) (sym of) (inside k b)

    pub overwrites : (bits : ℕ) → HasNumbers shapes m a send.active (λ sender. send.value sender % 2 ^ bits) → (to from : Elem) (old : ℕ) → is_sent_to send target ≡ true
        → message_or_zero m a (winning_sender shapes m address target) ≡ received m.winner A.Set to from send old target % 2 ^ bits
    unfolding received
    overwrites bits numbers to from old sent =
        ap (message_or_zero m a) same_winner
        ∙ by (winner_of m.winner (λ sender. Language.sends_to send target sender) send.count) refl
        ∙ ap (λ o. value_or old send.value o % 2 ^ bits) (sym (winner_is m.winner send target))
      where
        by : (o : Option ℕ) → winner_of m.winner (λ sender. Language.sends_to send target sender) send.count ≡ o → message_or_zero m a o ≡ value_or old send.value o % 2 ^ bits
        by None is = let none : is_sent_to send target ≡ false = sym target_is ∙ ap is_some (same_winner ∙ is) in cc
        by (Some k) is = let sends = winner_sends m.winner (λ sender. Language.sends_to send target sender) send.count k is in numbers k (within k sends.0) (sender_active send target k sends.1)

    module _ (op : AssignOp) (operator : Op) (is : assign_op_of op ≡ Some operator) (combining : folds op ≡ true)
        (numbers : HasNumbers shapes m a send.active (λ sender. sent_word operator (send.value sender))) (words : HaveBits 32 send)
        (d : Field) (to from : Elem) (old : ℕ) (wide : from.bits ≡ 32) (long : d.len ≡ to.bits) (holds : field_number m d target ≡ old) where
      abbrev reduction : Reduction
      reduction = fold_of operator (is_signed from)

      -- a word is folded with its sign
      signs : is_signed from ≡ from.signed
      unfolding is_signed
      signs = ap (λ n. from.signed || nat_lt n 32) wide ∙ alone from.signed
        where
          alone : (t : Bool) → (t || false) ≡ t
          alone true = refl
          alone false = refl

      number : (k : ℕ) → k < send.count → Language.sends_to send target k ≡ true → (field_number m a k ≡ sent_word operator (send.value k)) × (send.value k < 2 ^ 32)
      number k b on = let active = sender_active send target k on in (numbers k (within k b) active, words k b active)

      start : residue 32 (whole_number m to.signed d target) ≡ converted from to old
      unfolding whole_number
      start = ap (λ n. residue 32 (number_of n to.signed (field_number m d target))) long ∙ ap (λ w. residue 32 (number_of to.bits to.signed w)) holds ∙ sym (wide_converted from to old wide)

      fold_is : combined shapes m reduction d to.signed address a target
          ≡ fold_below (λ total w. step_of op (not from.signed) total w) (λ sender. Language.sends_to send target sender) send.value (converted from to old) send.count
      unfolding combined
      fold_is =
          ap (fold_below _ _ _ _) h.count
          ∙ fold_alike _ _ _ _ _ _ _ _ send.count start sends_alike
          (λ i k b on. let n = number k b on in
          ap (fold_once (combiner_of reduction).0 (combiner_of reduction).1 i) n.0 ∙ combines_as op operator (is_signed from) i (send.value k) is combining n.1 ∙ ap (λ t. step_of op (not t) i (send.value k)) signs)

      fold_is_few : combined shapes m reduction d to.signed address a target < 2 ^ 32
      unfolding combined
      fold_is_few =
          fold_few _ _ _ _ (processors shapes address.set) (residue_below 32 (whole_number m to.signed d target))
          (λ i k b on few. let below : k < send.count = omega (arith, b, h.count) in let n = number k below (sym (sends_alike k below) ∙ on) in
          fold_once_below (combiner_of reduction).0 (combiner_of reduction).1 i (field_number m a k) few (subst (λ (w : ℕ). w < 2 ^ 32) (sym n.0) (sent_few operator (send.value k) n.1)))

      pub combines : converted to word_kind (combined shapes m reduction d to.signed address a target) ≡ received m.winner op to from send old target
      unfolding folded_into
      combines =
          converted_alike to word_kind from (combined shapes m reduction d to.signed address a target) refl wide fold_is_few ∙ ap (converted to from) fold_is
          ∙ sym (received_is m.winner op to from send old target combining)

-- what is received with an operator has the bits of the target's type
pub folded_few : (w : Winner) (op : AssignOp) (to from : Elem) (send : Send) (old target : ℕ) → folds op ≡ true → received w op to from send old target < 2 ^ to.bits
unfolding folded_into
folded_few w op to from send old target is =
    subst (λ (n : ℕ). n < 2 ^ to.bits) (sym (received_is w op to from send old target is))
    (converted_below to from (fold_below (λ total v. step_of op (not from.signed) total v) (λ sender. Language.sends_to send target sender) send.value (converted from to old) send.count))

pub sent_targets : SentTargetsAreTheLanguages
sent_targets shapes m address send h target = target_is shapes m address send h target

pub overwriting_sends : OverwritingSendsAreTheLanguages
overwriting_sends shapes m d address a send bits h of numbers to from old target sent = overwrites shapes m address send h target a of bits numbers to from old sent

pub combining_sends : CombiningSendsAreTheLanguages
combining_sends shapes m d address a send h op operator is combining of numbers words to from old target wide long holds =
    combines shapes m address send h target a of op operator is combining numbers words d to from old wide long holds
