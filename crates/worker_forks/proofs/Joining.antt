-- What holds of a part and of the places behind it holds of all.
use Rattle.std.proofs.Common.{◌≡◌, ◌∙◌, ℕ, ◌+◌, ◌-◌, ◌<◌, ◌≤◌, ◌⊎◌, inl, inr, List, ◌++◌, length, slice_index_or, length-append, arith, sym, subst}
use Rattle.std.proofs.lemmas.Bool.{cases_lt}
use Rattle.std.proofs.lemmas.List.{get_or-append-add, get_or-append_right, get_or_append_left}
use Rattle.std.specs.Fork.{AcceptsAt, ChangesAt}
use Rattle.worker_forks.specs.Parts.{AcceptsFrom, ChangesFrom}
use denote.Param.Members.{Shared}
use denote.Ref.{MutBor}

module _ {F T : Type 0} (g : Shared F (ℕ × (MutBor T × Unit {0})) ((Unit {0}) × (MutBor T × Unit {0}))) (f : F) where
  -- the calls of a part that begins at the first place are those of the places
  pub changes_from_first : (xs ys : List T) → ChangesFrom g f 0 xs ys → (i : ℕ) (d : T) → i < length xs → ChangesAt g f i (slice_index_or xs i d) (slice_index_or ys i d)
  changes_from_first xs ys all i d less = subst (λ (j : ℕ). ChangesAt g f j (slice_index_or xs i d) (slice_index_or ys i d)) {x = 0 + i} (omega arith) (all.each i d less)

module _ {F T : Type 0} (g : Shared F (ℕ × (MutBor T × Unit {0})) ((Unit {0}) × (MutBor T × Unit {0}))) (f : F) (base size : ℕ) where
  pub accepts_behind : (xs part rest : List T) → xs ≡ part ++ rest → length part ≡ size → AcceptsFrom g f base xs → AcceptsFrom g f (base + size) rest
  accepts_behind xs part rest is long all = record {
    each = λ k d less.
        let whole = subst (AcceptsFrom g f base) is all in
        let at = whole.each (length part + k) d (omega (arith, less, length-append part rest)) in
        subst (λ (i : ℕ). AcceptsAt g f i (slice_index_or rest k d)) {x = base + (length part + k)} (omega (arith, long))
        (subst (AcceptsAt g f (base + (length part + k))) (get_or-append-add part rest k d) at);
  }

  pub changes_both : (xs part rest ys zs : List T) → xs ≡ part ++ rest → length part ≡ size → length ys ≡ length part → ChangesFrom g f base part ys → ChangesFrom g f (base + size) rest zs → ChangesFrom g f base xs (ys ++ zs)
  changes_both xs part rest ys zs is long same first others = subst (λ (all : List T). ChangesFrom g f base all (ys ++ zs)) (sym is) (record { each = λ k d less. by k d less (cases_lt k size) })
    where
      by : (k : ℕ) (d : T) → k < length (part ++ rest) → (k < size) ⊎ (size ≤ k) → ChangesAt g f (base + k) (slice_index_or (part ++ rest) k d) (slice_index_or (ys ++ zs) k d)
      by k d less (inl low) =
          subst (λ (x : T). ChangesAt g f (base + k) x (slice_index_or (ys ++ zs) k d)) (sym (get_or_append_left part rest d k (omega (arith, low, long))))
          (subst (ChangesAt g f (base + k) (slice_index_or part k d)) (sym (get_or_append_left ys zs d k (omega (arith, low, long, same)))) (first.each k d (omega (arith, low, long))))
      by k d less (inr high) =
          subst (λ (x : T). ChangesAt g f (base + k) x (slice_index_or (ys ++ zs) k d)) (sym (get_or-append_right part rest size k d long high))
          (subst (ChangesAt g f (base + k) (slice_index_or rest (k - size) d)) (sym (get_or-append_right ys zs size k d (same ∙ long) high))
          (subst (λ (i : ℕ). ChangesAt g f i (slice_index_or rest (k - size) d) (slice_index_or zs (k - size) d)) {x = base + size + (k - size)} (omega (arith, high))
          (others.each (k - size) d (omega (arith, less, high, long, length-append part rest)))))
