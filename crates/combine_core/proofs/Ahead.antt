-- The next slot with a message in a claim.
use Rattle.std.proofs.Common.{◌≡◌, ℕ, zero, suc, ◌+◌, ◌-◌, ◌*◌, ◌<◌, ◌≤◌, true, false, is_some, List, [], ◌∷◌, length, get_or, take, drop, slice_get, Option, Some, None, refl, sym, ap, ◌∙◌, add-one, suc-add, drop-cons, arith}
use Rattle.combine_core.specs.declared.message.Message.{Message}
use Rattle.combine_core.specs.Machine.{first_message, next_in}

pub slice_get-take : {X : Type 0} (xs : List X) (n l : ℕ) (y : X) → slice_get (take n xs) l ≡ Some y → (l < n) × (slice_get xs l ≡ Some y)
slice_get-take [] zero l y e = absurd (cc)
slice_get-take [] (suc n) l y e = absurd (cc)
slice_get-take (x ∷ xs) zero l y e = absurd (cc)
slice_get-take (x ∷ xs) (suc n) zero y e = (omega arith, e)
slice_get-take (x ∷ xs) (suc n) (suc l) y e = let r = slice_get-take xs n l y e in (let h : l < n = r.0 in omega arith, r.1)

pub slice_get-take_from : {X : Type 0} (xs : List X) (n l : ℕ) (y : X) → l < n → slice_get xs l ≡ Some y → slice_get (take n xs) l ≡ Some y
slice_get-take_from [] zero l y h e = absurd (cc)
slice_get-take_from [] (suc n) l y h e = absurd (cc)
slice_get-take_from (x ∷ xs) zero l y h e = absurd (omega arith)
slice_get-take_from (x ∷ xs) (suc n) zero y h e = e
slice_get-take_from (x ∷ xs) (suc n) (suc l) y h e = slice_get-take_from xs n l y (omega arith) e

pub slice_get-drop : {X : Type 0} (xs : List X) (s l : ℕ) → slice_get (drop s xs) l ≡ slice_get xs (s + l)
slice_get-drop xs zero l = ap (slice_get xs) (omega arith)
slice_get-drop [] (suc s) l = refl
slice_get-drop (x ∷ xs) (suc s) l = slice_get-drop xs s l ∙ ap (slice_get (x ∷ xs)) (sym (suc-add s l))

-- what the first message of a list is
pub record IsFirst (n : ℕ) (os : List (Option Message)) (i : ℕ) : Type 0 where
  pub offset : ℕ
  pub at : i ≡ n + offset
  pub message : Message
  pub there : slice_get os offset ≡ Some (Some message)
  pub none_before : (l : ℕ) (x : Message) → l < offset → slice_get os l ≡ Some (Some x) → ⊥

pub first_message_some : (n : ℕ) (os : List (Option Message)) (i : ℕ) → first_message n os ≡ Some i → IsFirst n os i
first_message_some n [] i e = absurd (cc)
first_message_some n (None ∷ os) i e =
    let r = first_message_some (suc n) os i e in
    record {
      offset = suc r.offset;
      at = let p : i ≡ suc n + r.offset = r.at in omega arith;
      message = r.message;
      there = r.there;
      none_before = before os r.offset r.none_before;
    }
  where
    before : (os : List (Option Message)) (o : ℕ) → ((l : ℕ) (x : Message) → l < o → slice_get os l ≡ Some (Some x) → ⊥) → (l : ℕ) (x : Message) → l < suc o → slice_get (None ∷ os) l ≡ Some (Some x) → ⊥
    before os o h zero x b e = absurd (cc)
    before os o h (suc l) x b e = h l x (omega arith) e
first_message_some n (Some m ∷ os) i e = record { offset = 0; at = (let p : n ≡ i = cc in omega arith); message = m; there = refl; none_before = (λ l x b e. omega arith) }

pub first_message_none : (n : ℕ) (os : List (Option Message)) → first_message n os ≡ None → (l : ℕ) (x : Message) → slice_get os l ≡ Some (Some x) → ⊥
first_message_none n [] e l x is = absurd (cc)
first_message_none n (None ∷ os) e zero x is = absurd (cc)
first_message_none n (None ∷ os) e (suc l) x is = first_message_none (suc n) os e l x is
first_message_none n (Some m ∷ os) e l x is = absurd (cc)

-- slot i has the first message behind the passed slots of a claim
pub record IsNext (os : List (Option Message)) (c p i : ℕ) : Type 0 where
  pub behind : 512 * c + p ≤ i
  pub within : i < 512 * c + 512
  pub message : Message
  pub there : slice_get os i ≡ Some (Some message)
  pub none_before : (j : ℕ) (x : Message) → 512 * c + p ≤ j → j < i → slice_get os j ≡ Some (Some x) → ⊥

at_offset : (os : List (Option Message)) (s n l : ℕ) (x : Message) → slice_get (take n (drop s os)) l ≡ Some (Some x) → (l < n) × (slice_get os (s + l) ≡ Some (Some x))
at_offset os s n l x e = let r = slice_get-take (drop s os) n l (Some x) e in (r.0, sym (slice_get-drop os s l) ∙ r.1)

from_offset : (os : List (Option Message)) (s n j : ℕ) (x : Message) → s ≤ j → j - s < n → slice_get os j ≡ Some (Some x) → slice_get (take n (drop s os)) (j - s) ≡ Some (Some x)
from_offset os s n j x h b e = slice_get-take_from (drop s os) n (j - s) (Some x) b (slice_get-drop os s (j - s) ∙ ap (slice_get os) (omega arith) ∙ e)

pub next_in_some : (os : List (Option Message)) (c p i : ℕ) → p ≤ 512 → next_in os record { claim = c; passed = p } ≡ Some i → IsNext os c p i
next_in_some os c p i h e =
    let s = 512 * c + p in
    let r = first_message_some s (take (512 - p) (drop s os)) i e in
    let q = at_offset os s (512 - p) r.offset r.message r.there in
    let at : i ≡ (512 * c + p) + r.offset = r.at in
    let b : r.offset < 512 - p = q.0 in
    record {
      behind = omega arith;
      within = omega arith;
      message = r.message;
      there = ap (slice_get os) at ∙ q.1;
      none_before = λ j x low high is. r.none_before (j - s) x (omega arith) (from_offset os s (512 - p) j x low (omega arith) is);
    }

pub next_in_none : (os : List (Option Message)) (c p : ℕ) → p ≤ 512 → next_in os record { claim = c; passed = p } ≡ None → (j : ℕ) (x : Message) → 512 * c + p ≤ j → j < 512 * c + 512 → slice_get os j ≡ Some (Some x) → ⊥
next_in_none os c p h e j x low high is = first_message_none (512 * c + p) (take (512 - p) (drop (512 * c + p) os)) e (j - (512 * c + p)) x (from_offset os (512 * c + p) (512 - p) j x low (omega arith) is)

-- the first message from slot i on is that of slot i, if it has one, or the first from the next slot on
pub first_message-more : (os : List (Option Message)) (i to : ℕ) (d : Option Message) → i < to → to ≤ length os → first_message i (take (to - i) (drop i os)) ≡ first_message i (get_or os i d ∷ take (to - (i + 1)) (drop (i + 1) os))
first_message-more os i to d below within =
    ap (λ (n : ℕ). first_message i (take n (drop i os))) (let e : to - i ≡ suc (to - (i + 1)) = omega arith in e)
    ∙ ap (λ (xs : List (Option Message)). first_message i (take (suc (to - (i + 1))) xs)) (drop-cons os i d (omega arith))
    ∙ ap (λ (n : ℕ). first_message i (get_or os i d ∷ take (to - (i + 1)) (drop n os))) (sym (add-one i))

pub first_message_here : (i : ℕ) (o : Option Message) (os : List (Option Message)) → is_some o ≡ true → first_message i (o ∷ os) ≡ Some i
first_message_here i None os e = absurd (cc)
first_message_here i (Some m) os e = refl

pub first_message_not_here : (i : ℕ) (o : Option Message) (os : List (Option Message)) → is_some o ≡ false → first_message i (o ∷ os) ≡ first_message (i + 1) os
first_message_not_here i None os e = ap (λ (n : ℕ). first_message n os) (sym (add-one i))
first_message_not_here i (Some m) os e = absurd (cc)
