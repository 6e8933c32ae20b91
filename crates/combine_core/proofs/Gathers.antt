-- A cell after some messages, and after one more.
use Rattle.std.proofs.Common.{◌≡◌, ◌≢◌, ℕ, zero, suc, ◌+◌, Bool, true, false, ◌==◌, ◌&&◌, if◌then◌else◌, List, [], ◌∷◌, slice_get, Option, Some, None, refl, sym, ap, ◌∙◌, subst, add-zero, add-suc, suc-add, arith}
use Rattle.combine_core.specs.declared.kind.Kind.{Kind}
use Rattle.combine_core.specs.declared.message.Message.{Message}
use Rattle.combine_core.specs.Encodings.{joined}
use Rattle.combine_core.specs.Cells.{message_word, taken, gathered}
use Rattle.combine_core.proofs.Joins.{joined_swap}

choice_swap : (k : Kind) (b : Bool) (a w x : ℕ) → (if b then joined k (joined k a w) x else joined k a w) ≡ joined k (if b then joined k a x else a) w
choice_swap k true a w x = joined_swap k a w x
choice_swap k false a w x = refl

taken_joined : (k : Kind) (here : Bool) (t a w : ℕ) (o : Option Message) → taken k here t (joined k a w) o ≡ joined k (taken k here t a o) w
taken_joined k here t a w None = refl
taken_joined k here t a w (Some m) = choice_swap k (here && m.target == t) a w (message_word k m)

-- what a cell begins with may as well be joined last
pub gathered_joined : (k : Kind) (d : ℕ → Bool) (t i a w : ℕ) (os : List (Option Message)) → gathered k d t i (joined k a w) os ≡ joined k (gathered k d t i a os) w
gathered_joined k d t i a w [] = refl
gathered_joined k d t i a w (o ∷ os) = ap (λ (x : ℕ). gathered k d t (suc i) x os) (taken_joined k (d i) t a w o) ∙ gathered_joined k d t (suc i) (taken k (d i) t a o) w os

taken_same : (k : Kind) (b c : Bool) (t a : ℕ) (o : Option Message) → ((m : Message) → o ≡ Some m → b ≡ c) → taken k b t a o ≡ taken k c t a o
taken_same k b c t a None h = refl
taken_same k b c t a (Some m) h = ap (λ (x : Bool). taken k x t a (Some m)) (h m refl)

-- picks that agree at each message give one cell
pub gathered_same : (k : Kind) (d e : ℕ → Bool) (t i a : ℕ) (os : List (Option Message)) → ((j : ℕ) (m : Message) → slice_get os j ≡ Some (Some m) → d (i + j) ≡ e (i + j)) → gathered k d t i a os ≡ gathered k e t i a os
gathered_same k d e t i a [] h = refl
gathered_same k d e t i a (o ∷ os) h =
    ap (λ (x : ℕ). gathered k d t (suc i) x os) (taken_same k (d i) (e i) t a o (λ m is. subst (λ (n : ℕ). d n ≡ e n) (add-zero i) (h 0 m (ap Some is))))
    ∙ gathered_same k d e t (suc i) (taken k (e i) t a o) os (λ j m is. subst (λ (n : ℕ). d n ≡ e n) (add-suc i j ∙ sym (suc-add i j)) (h (suc j) m is))

-- no message is picked
pub gathered_none : (k : Kind) (d : ℕ → Bool) (t i a : ℕ) (os : List (Option Message)) → ((j : ℕ) → d j ≡ false) → gathered k d t i a os ≡ a
gathered_none k d t i a [] h = refl
gathered_none k d t i a (o ∷ os) h = ap (λ (x : ℕ). gathered k d t (suc i) x os) (at_none o) ∙ gathered_none k d t (suc i) a os h
  where
    at_none : (o : Option Message) → taken k (d i) t a o ≡ a
    at_none None = refl
    at_none (Some m) = ap (λ (x : Bool). taken k x t a (Some m)) (h i)

-- one more message may as well be joined last
abbrev pub with_message : Kind → ℕ → ℕ → Message → ℕ
with_message k t x m = if m.target == t then joined k x (message_word k m) else x

one_first : (k : Kind) (d : ℕ → Bool) (t i a : ℕ) (m : Message) (os : List (Option Message)) (b : Bool) → gathered k d t i (if b then joined k a (message_word k m) else a) os ≡ (if b then joined k (gathered k d t i a os) (message_word k m) else gathered k d t i a os)
one_first k d t i a m os true = gathered_joined k d t i a (message_word k m) os
one_first k d t i a m os false = refl

pub gathered_more : (k : Kind) (d e : ℕ → Bool) (t i a : ℕ) (os : List (Option Message)) (j : ℕ) (m : Message) → slice_get os j ≡ Some (Some m) → d (i + j) ≡ false → e (i + j) ≡ true
    → ((n : ℕ) (x : Message) → n ≢ j → slice_get os n ≡ Some (Some x) → d (i + n) ≡ e (i + n))
    → gathered k e t i a os ≡ with_message k t (gathered k d t i a os) m
gathered_more k d e t i a [] j m is off on same = absurd (cc)
gathered_more k d e t i a (None ∷ os) zero m is off on same = absurd (cc)
gathered_more k d e t i a (Some x ∷ os) zero m is off on same =
    let here : x ≡ m = cc in
    let on' : e i ≡ true = subst (λ (n : ℕ). e n ≡ true) (add-zero i) on in
    let off' : d i ≡ false = subst (λ (n : ℕ). d n ≡ false) (add-zero i) off in
    sym (gathered_same k d e t (suc i) (taken k (e i) t a (Some x)) os (λ n y there. subst (λ (q : ℕ). d q ≡ e q) (add-suc i n ∙ sym (suc-add i n)) (same (suc n) y (λ z. omega arith) there)))
    ∙ ap (λ (b : Bool). gathered k d t (suc i) (taken k b t a (Some x)) os) on'
    ∙ ap (λ (y : Message). gathered k d t (suc i) (taken k true t a (Some y)) os) here
    ∙ one_first k d t (suc i) a m os (m.target == t)
    ∙ ap (λ (b : Bool). with_message k t (gathered k d t (suc i) (taken k b t a (Some x)) os) m) (sym off')
gathered_more k d e t i a (o ∷ os) (suc j) m is off on same =
    ap (λ (x : ℕ). gathered k e t (suc i) x os) (taken_same k (e i) (d i) t a o (λ y at. sym (subst (λ (q : ℕ). d q ≡ e q) (add-zero i) (same 0 y (λ z. omega arith) (ap Some at)))))
    ∙ gathered_more k d e t (suc i) (taken k (d i) t a o) os j m is
    (subst (λ (n : ℕ). d n ≡ false) (add-suc i j ∙ sym (suc-add i j)) off)
    (subst (λ (n : ℕ). e n ≡ true) (add-suc i j ∙ sym (suc-add i j)) on)
    (λ n x apart at. subst (λ (q : ℕ). d q ≡ e q) (add-suc i n ∙ sym (suc-add i n)) (same (suc n) x (λ z. apart (omega arith)) at))
