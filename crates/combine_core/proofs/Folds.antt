-- A cell with all messages, decoded, is the fold of their values.
use Rattle.std.proofs.Common.{◌≡◌, ◌⊎◌, ℕ, suc, ◌+◌, ◌-◌, ◌*◌, ◌%◌, ◌^◌, ◌<◌, ◌≤◌, min, max, Bool, true, false, ◌==◌, if◌then◌else◌, List, [], ◌∷◌, reverse, Option, Some, None, bit_and, bit_or, bit_xor, refl, sym, ap, ◌∙◌, inl, inr, ⊎_elim, subst, mod-eq_of_lt, arith}
use Rattle.std.proofs.lemmas.Bool.{cond-true, cond-false, eq-eqb, ne_eqb, cond_both}
use Rattle.std.proofs.lemmas.List.{reverse-append}
use Rattle.std.proofs.lemmas.List.Sums.{fold_push}
use Rattle.std.proofs.lemmas.Nat.{or_of_32, xor_of_32, and_le_l}
use Rattle.cstar_base.specs.Folds.{fold_once}
use Rattle.cstar_base.specs.declared.operators.Combiner.TheVariants as combiner
use Rattle.combine_core.specs.declared.kind.Kind.{Kind}
use Rattle.combine_core.specs.declared.kind.Kind.TheVariants.{Add, And, Or, Xor, Min, Max, Last, First}
use Rattle.combine_core.specs.declared.message.Message.{Message}
use Rattle.combine_core.specs.Encodings.{moved, combiner_of, encoded_home, joined, decoded}
use Rattle.combine_core.specs.Cells.{message_word, gathered, values_to, RisesFrom}
use Rattle.combine_core.specs.Folded.{fold_values, folded}
use Rattle.combine_core.proofs.Words.{sum_is, and_is, or_is, xor_is, last_is, min_is, max_is, lesser_unsigned, greater_unsigned, lesser_signed, greater_signed}

abbrev every : ℕ → Bool
every i = true

step : Kind → ℕ → ℕ → ℕ
step k a v = fold_once (combiner_of k).0 (combiner_of k).1 a v

-- a relation between the words and the cells that each message keeps
module _ (k : Kind) (R : ℕ → ℕ → Type 0) (kept : (a x : ℕ) (m : Message) → R a x → R (fold_once (combiner_of k).0 (combiner_of k).1 a m.value) (joined k x (message_word k m))) where
  related_choice : (b : Bool) (t i a x : ℕ) (m : Message) (os : List (Option Message))
      → ((a x : ℕ) → R a x → R (fold_values k a (values_to t os)) (gathered k every t (suc i) x os))
      → R a x → R (fold_values k a (if b then m.value ∷ values_to t os else values_to t os)) (gathered k every t (suc i) (if b then joined k x (message_word k m) else x) os)
  related_choice true t i a x m os more r = more (fold_once (combiner_of k).0 (combiner_of k).1 a m.value) (joined k x (message_word k m)) (kept a x m r)
  related_choice false t i a x m os more r = more a x r

  related : (t i a x : ℕ) (os : List (Option Message)) → R a x → R (fold_values k a (values_to t os)) (gathered k every t i x os)
  related t i a x [] r = r
  related t i a x (None ∷ os) r = related t (suc i) a x os r
  related t i a x (Some m ∷ os) r = related_choice (m.target == t) t i a x m os (λ b y q. related t (suc i) b y os q) r

-- ---- sums

abbrev IsSum : ℕ → ℕ → Type 0
IsSum a x = (a < 2 ^ 32) × (x % 2 ^ 32 ≡ a)

wide_sum : (a x v : ℕ) → v < 2 ^ 32 → x % 2 ^ 32 ≡ a → (x + v) % 2 ^ 64 % 2 ^ 32 ≡ (a + v) % 2 ^ 32
wide_sum a x v h e = omega arith

sum_kept : (a x : ℕ) (m : Message) → IsSum a x → IsSum (fold_once combiner.Add true a m.value) (joined Add x (message_word Add m))
sum_kept a x m r =
    let is = sum_is a m.value in
    let e : x % 2 ^ 32 ≡ a = r.1 in
    let w : (x + m.value) % 2 ^ 64 % 2 ^ 32 ≡ (a + m.value) % 2 ^ 32 = wide_sum a x m.value m.value_fits e in
    (omega arith, w ∙ sym is)

-- ---- bits

abbrev IsSame : ℕ → ℕ → Type 0
IsSame a x = (a < 2 ^ 32) × (x ≡ a)

same_step : (a x v n : ℕ) (f : ℕ → ℕ → ℕ) → n ≡ f a v → (a < 2 ^ 32 → f a v < 2 ^ 32) → IsSame a x → IsSame n (f x v)
same_step a x v n f is small r = (subst (λ (q : ℕ). q < 2 ^ 32) (sym is) (small r.0), ap (λ (q : ℕ). f q v) r.1 ∙ sym is)

and_kept : (a x : ℕ) (m : Message) → IsSame a x → IsSame (fold_once combiner.And true a m.value) (joined And x (message_word And m))
and_kept a x m r = same_step a x m.value _ bit_and (and_is a m.value) (λ b. let le = and_le_l a m.value in omega arith) r

or_kept : (a x : ℕ) (m : Message) → IsSame a x → IsSame (fold_once combiner.Or true a m.value) (joined Or x (message_word Or m))
or_kept a x m r = same_step a x m.value _ bit_or (or_is a m.value) (λ b. or_of_32 a m.value b m.value_fits) r

xor_kept : (a x : ℕ) (m : Message) → IsSame a x → IsSame (fold_once combiner.Xor true a m.value) (joined Xor x (message_word Xor m))
xor_kept a x m r = same_step a x m.value _ bit_xor (xor_is a m.value) (λ b. xor_of_32 a m.value b m.value_fits) r

-- ---- least and greatest

min_kept : (a x : ℕ) (m : Message) → IsSame a x → IsSame (fold_once combiner.Min true a m.value) (joined (Min false) x (message_word (Min false) m))
min_kept a x m r = same_step a x m.value _ min (min_is true a m.value ∙ lesser_unsigned a m.value r.0 m.value_fits) (λ b. let f : m.value < 2 ^ 32 = m.value_fits in omega arith) r

max_kept : (a x : ℕ) (m : Message) → IsSame a x → IsSame (fold_once combiner.Max true a m.value) (joined (Max false) x (message_word (Max false) m))
max_kept a x m r = same_step a x m.value _ max (max_is true a m.value ∙ greater_unsigned a m.value r.0 m.value_fits) (λ b. let f : m.value < 2 ^ 32 = m.value_fits in omega arith) r

abbrev IsMoved : ℕ → ℕ → Type 0
IsMoved a x = (a < 2 ^ 32) × (x ≡ moved a)

signed_min_kept : (a x : ℕ) (m : Message) → IsMoved a x → IsMoved (fold_once combiner.Min false a m.value) (joined (Min true) x (message_word (Min true) m))
signed_min_kept a x m r =
    let s = lesser_signed a m.value r.0 m.value_fits in
    let is = min_is false a m.value in
    (subst (λ (q : ℕ). q < 2 ^ 32) (sym is) s.1, ap (λ (q : ℕ). min q (moved m.value)) r.1 ∙ sym s.0 ∙ ap moved (sym is))

signed_max_kept : (a x : ℕ) (m : Message) → IsMoved a x → IsMoved (fold_once combiner.Max false a m.value) (joined (Max true) x (message_word (Max true) m))
signed_max_kept a x m r =
    let s = greater_signed a m.value r.0 m.value_fits in
    let is = max_is false a m.value in
    (subst (λ (q : ℕ). q < 2 ^ 32) (sym is) s.1, ap (λ (q : ℕ). max q (moved m.value)) r.1 ∙ sym s.0 ∙ ap moved (sym is))

moved_back : (a : ℕ) → a < 2 ^ 32 → moved (moved a) ≡ a
moved_back a h = omega arith

-- ---- the last sender

-- a cell that no message reached, or the encoding of a sender below low with this word
abbrev IsLatest : ℕ → ℕ → ℕ → ℕ → Type 0
IsLatest home low a x = ((x ≡ 0) × (a ≡ home)) ⊎ ((s : ℕ) × (s < low) × (a < 2 ^ 32) × (x ≡ (s + 1) * 2 ^ 32 + a))

later : (home low high a x : ℕ) → low ≤ high → IsLatest home low a x → IsLatest home high a x
later home low high a x h r =
    ⊎_elim
    (λ (z : (x ≡ 0) × (a ≡ home)). inl z)
    (λ (z : (s : ℕ) × (s < low) × (a < 2 ^ 32) × (x ≡ (s + 1) * 2 ^ 32 + a)). let b : z.0 < low = z.1 in inr (z.0, omega arith, z.2, z.3))
    r

overtaken : (home low a x : ℕ) (m : Message) → low ≤ m.sender → IsLatest home low a x → IsLatest home (m.sender + 1) m.value (joined Last x (message_word Last m))
overtaken home low a x m h r =
    inr (
      m.sender,
      omega arith,
      m.value_fits,
      ⊎_elim
          (λ (z : (x ≡ 0) × (a ≡ home)). let e : x ≡ 0 = z.0 in omega arith)
          (λ (z : (s : ℕ) × (s < low) × (a < 2 ^ 32) × (x ≡ (s + 1) * 2 ^ 32 + a)).
          let b : z.0 < low = z.1 in
          let c : a < 2 ^ 32 = z.2 in
          let e : x ≡ (z.0 + 1) * 2 ^ 32 + a = z.3 in
          omega arith)
          r,
    )

latest_decoded : (home low a x : ℕ) → IsLatest home low a x → decoded Last home x ≡ a
latest_decoded home low a x r =
    ⊎_elim
    (λ (z : (x ≡ 0) × (a ≡ home)). cond-true (x == 0) home (x % 2 ^ 32) (eq-eqb x 0 z.0) ∙ sym z.1)
    (λ (z : (s : ℕ) × (s < low) × (a < 2 ^ 32) × (x ≡ (s + 1) * 2 ^ 32 + a)).
    let c : a < 2 ^ 32 = z.2 in
    let e : x ≡ (z.0 + 1) * 2 ^ 32 + a = z.3 in
    cond-false (x == 0) home (x % 2 ^ 32) (ne_eqb x 0 (λ q. omega arith)) ∙ omega arith)
    r

last_choice : (b : Bool) (home t i low a x : ℕ) (m : Message) (os : List (Option Message)) → low ≤ m.sender
    → ((a x : ℕ) → IsLatest home (m.sender + 1) a x → decoded Last home (gathered Last every t (suc i) x os) ≡ fold_values Last a (values_to t os))
    → IsLatest home low a x
    → decoded Last home (gathered Last every t (suc i) (if b then joined Last x (message_word Last m) else x) os) ≡ fold_values Last a (if b then m.value ∷ values_to t os else values_to t os)
last_choice true home t i low a x m os h more r =
    more m.value (joined Last x (message_word Last m)) (overtaken home low a x m h r)
    ∙ ap (λ (q : ℕ). fold_values Last q (values_to t os)) (sym (last_is a m.value))
last_choice false home t i low a x m os h more r = more a x (later home low (m.sender + 1) a x (omega arith) r)

last_fold : (home t i low a x : ℕ) (os : List (Option Message)) → RisesFrom low os → IsLatest home low a x → decoded Last home (gathered Last every t i x os) ≡ fold_values Last a (values_to t os)
last_fold home t i low a x [] rises r = latest_decoded home low a x r
last_fold home t i low a x (None ∷ os) rises r = last_fold home t (suc i) low a x os rises r
last_fold home t i low a x (Some m ∷ os) rises r =
    last_choice (m.target == t) home t i low a x m os rises.0 (λ b y q. last_fold home t (suc i) (m.sender + 1) b y os rises.1 q) r

-- ---- the first sender

-- a cell that has the message of a sender keeps it
first_choice : (b : Bool) (x s a : ℕ) (m : Message) → s < m.sender → a < 2 ^ 32 → x ≡ (2 ^ 32 - 1 - s) * 2 ^ 32 + a → (if b then joined First x (message_word First m) else x) ≡ x
first_choice true x s a m h p e = let f : m.sender < 2 ^ 32 - 1 = m.sender_fits in let g : m.value < 2 ^ 32 = m.value_fits in omega arith
first_choice false x s a m h p e = refl

first_kept : (t i low s a x : ℕ) (os : List (Option Message)) → RisesFrom low os → s < low → a < 2 ^ 32 → x ≡ (2 ^ 32 - 1 - s) * 2 ^ 32 + a → gathered First every t i x os ≡ x
first_kept t i low s a x [] rises h p e = refl
first_kept t i low s a x (None ∷ os) rises h p e = first_kept t (suc i) low s a x os rises h p e
first_kept t i low s a x (Some m ∷ os) rises h p e =
    let b : low ≤ m.sender = rises.0 in
    ap (λ (q : ℕ). gathered First every t (suc i) q os) (first_choice (m.target == t) x s a m (omega arith) p e)
    ∙ first_kept t (suc i) (m.sender + 1) s a x os rises.1 (omega arith) p e

first_alone : (home t i : ℕ) (m : Message) (os : List (Option Message)) → RisesFrom (m.sender + 1) os → decoded First home (gathered First every t i (joined First 0 (message_word First m)) os) ≡ m.value
first_alone home t i m os rises =
    let f : m.sender < 2 ^ 32 - 1 = m.sender_fits in
    let g : m.value < 2 ^ 32 = m.value_fits in
    let x : ℕ = (2 ^ 32 - 1 - m.sender) * 2 ^ 32 + m.value in
    let one : max 0 ((2 ^ 32 - 1 - m.sender) * 2 ^ 32 + m.value) ≡ (2 ^ 32 - 1 - m.sender) * 2 ^ 32 + m.value = omega arith in
    ap (decoded First home) (ap (λ (q : ℕ). gathered First every t i q os) one ∙ first_kept t i (m.sender + 1) m.sender m.value x os rises (omega arith) g refl)
    ∙ cond-false (x == 0) home (x % 2 ^ 32) (ne_eqb x 0 (λ q. omega arith)) ∙ omega arith

first_step : (b : Bool) (home t i : ℕ) (m : Message) (os : List (Option Message)) → RisesFrom (m.sender + 1) os
    → decoded First home (gathered First every t (suc i) 0 os) ≡ fold_values First home (reverse (values_to t os))
    → decoded First home (gathered First every t (suc i) (if b then joined First 0 (message_word First m) else 0) os) ≡ fold_values First home (reverse (if b then m.value ∷ values_to t os else values_to t os))
first_step true home t i m os rises more =
    first_alone home t (suc i) m os rises
    ∙ sym (ap (fold_values First home) (reverse-append (m.value ∷ []) (values_to t os))
    ∙ fold_push (λ acc v. fold_once combiner.Last true acc v) home (reverse (values_to t os)) m.value
    ∙ last_is (fold_values First home (reverse (values_to t os))) m.value)
first_step false home t i m os rises more = more

first_fold : (home t i low : ℕ) (os : List (Option Message)) → RisesFrom low os → decoded First home (gathered First every t i 0 os) ≡ fold_values First home (reverse (values_to t os))
first_fold home t i low [] rises = refl
first_fold home t i low (None ∷ os) rises = first_fold home t (suc i) low os rises
first_fold home t i low (Some m ∷ os) rises = first_step (m.target == t) home t i m os rises.1 (first_fold home t (suc i) (m.sender + 1) os rises.1)

-- ---- each combiner

pub decoded_folded : (k : Kind) (t home : ℕ) (os : List (Option Message)) → home < 2 ^ 32 → RisesFrom 0 os → decoded k home (gathered k (λ _. true) t 0 (encoded_home k home) os) ≡ folded k t home os
decoded_folded Add t home os h rises = (related Add IsSum sum_kept t 0 home home os (h, mod-eq_of_lt h)).1
decoded_folded And t home os h rises = (related And IsSame and_kept t 0 home home os (h, refl)).1
decoded_folded Or t home os h rises = (related Or IsSame or_kept t 0 home home os (h, refl)).1
decoded_folded Xor t home os h rises = (related Xor IsSame xor_kept t 0 home home os (h, refl)).1
decoded_folded (Min false) t home os h rises = (related (Min false) IsSame min_kept t 0 home home os (h, refl)).1
decoded_folded (Max false) t home os h rises = (related (Max false) IsSame max_kept t 0 home home os (h, refl)).1
decoded_folded (Min true) t home os h rises = let r = related (Min true) IsMoved signed_min_kept t 0 home (moved home) os (h, refl) in ap moved r.1 ∙ moved_back _ r.0
decoded_folded (Max true) t home os h rises = let r = related (Max true) IsMoved signed_max_kept t 0 home (moved home) os (h, refl) in ap moved r.1 ∙ moved_back _ r.0
decoded_folded Last t home os h rises = last_fold home t 0 0 home 0 os rises (inl (refl, refl))
decoded_folded First t home os h rises = first_fold home t 0 0 os rises

low_word : (home x : ℕ) → home < 2 ^ 32 → (if x == 0 then home else x % 2 ^ 32) < 2 ^ 32
low_word home x h = cond_both (x == 0) home (x % 2 ^ 32) (λ (q : ℕ). q < 2 ^ 32) (λ _. h) (λ _. omega arith)

pub decoded_fits : (k : Kind) (t home : ℕ) (os : List (Option Message)) → home < 2 ^ 32 → decoded k home (gathered k (λ _. true) t 0 (encoded_home k home) os) < 2 ^ 32
decoded_fits Add t home os h = omega arith
decoded_fits And t home os h = let r = related And IsSame and_kept t 0 home home os (h, refl) in subst (λ (q : ℕ). q < 2 ^ 32) (sym r.1) r.0
decoded_fits Or t home os h = let r = related Or IsSame or_kept t 0 home home os (h, refl) in subst (λ (q : ℕ). q < 2 ^ 32) (sym r.1) r.0
decoded_fits Xor t home os h = let r = related Xor IsSame xor_kept t 0 home home os (h, refl) in subst (λ (q : ℕ). q < 2 ^ 32) (sym r.1) r.0
decoded_fits (Min false) t home os h = let r = related (Min false) IsSame min_kept t 0 home home os (h, refl) in subst (λ (q : ℕ). q < 2 ^ 32) (sym r.1) r.0
decoded_fits (Max false) t home os h = let r = related (Max false) IsSame max_kept t 0 home home os (h, refl) in subst (λ (q : ℕ). q < 2 ^ 32) (sym r.1) r.0
decoded_fits (Min true) t home os h = omega arith
decoded_fits (Max true) t home os h = omega arith
decoded_fits Last t home os h = low_word home _ h
decoded_fits First t home os h = low_word home _ h
