-- What stands where in a list that is pushed to, cut or changed in one place.
use Rattle.std.proofs.Common.{◌≡◌, ◌≢◌, ℕ, zero, suc, ◌+◌, ◌<◌, List, [], ◌∷◌, ◌++◌, length, take, drop, reverse, slice_get, ◌-◌, Some, ◌⊎◌, inl, inr, refl, sym, ap, ◌∙◌, arith}
use Rattle.std.proofs.Math.ListN.{set}
use Rattle.std.proofs.lemmas.List.{reverse-append}
use Rattle.std.proofs.lemmas.Option.{same_Some}

pub kept_below : {A : Type 0} (xs ys : List A) (k : ℕ) → k < length xs → slice_get (xs ++ ys) k ≡ slice_get xs k
kept_below [] ys k h = absurd (omega arith)
kept_below (x ∷ xs) ys zero h = refl
kept_below (x ∷ xs) ys (suc k) h = kept_below xs ys k (omega arith)

pub at_end : {A : Type 0} (xs : List A) (x : A) → slice_get (xs ++ x ∷ []) (length xs) ≡ Some x
at_end [] x = refl
at_end (y ∷ xs) x = at_end xs x

-- what stands in a list with one more element stood there before, or is this element
pub pushed : {A : Type 0} (xs : List A) (x : A) (k : ℕ) (y : A) → slice_get (xs ++ x ∷ []) k ≡ Some y → (slice_get xs k ≡ Some y) ⊎ ((k ≡ length xs) × (x ≡ y))
pushed [] x zero y h = inr (refl, same_Some x y h)
pushed [] x (suc k) y h = cc
pushed (z ∷ xs) x zero y h = inl h
pushed (z ∷ xs) x (suc k) y h =
    elim (pushed xs x k y h) [ inl old ↦ inl old | inr new ↦ inr (ap suc new.0, new.1) ]

pub cut : {A : Type 0} (n : ℕ) (xs : List A) (k : ℕ) (x : A) → slice_get (take n xs) k ≡ Some x → (k < n) × (slice_get xs k ≡ Some x)
cut zero [] k x h = cc
cut zero (y ∷ xs) k x h = cc
cut (suc n) [] k x h = cc
cut (suc n) (y ∷ xs) zero x h = (omega arith, h)
cut (suc n) (y ∷ xs) (suc k) x h = let p = cut n xs k x h in (omega arith, p.1)

pub cut_keeps : {A : Type 0} (n : ℕ) (xs : List A) (k : ℕ) → k < n → slice_get (take n xs) k ≡ slice_get xs k
cut_keeps zero xs k h = absurd (omega arith)
cut_keeps (suc n) [] k h = refl
cut_keeps (suc n) (y ∷ xs) zero h = refl
cut_keeps (suc n) (y ∷ xs) (suc k) h = cut_keeps n xs k (omega arith)

pub behind : {A : Type 0} (n : ℕ) (xs : List A) (k : ℕ) → slice_get (drop n xs) k ≡ slice_get xs (n + k)
behind zero xs k = ap (slice_get xs) (let e : k ≡ 0 + k = omega arith in e)
behind (suc n) [] k = refl
behind (suc n) (y ∷ xs) k = behind n xs k ∙ ap (slice_get (y ∷ xs)) (let e : suc (n + k) ≡ suc n + k = omega arith in e)

pub set_here : {A : Type 0} (xs : List A) (i : ℕ) (y : A) → i < length xs → slice_get (set xs i y) i ≡ Some y
set_here [] i y h = absurd (omega arith)
set_here (x ∷ xs) zero y h = refl
set_here (x ∷ xs) (suc i) y h = set_here xs i y (omega arith)

pub set_else : {A : Type 0} (xs : List A) (i : ℕ) (y : A) (k : ℕ) → k ≢ i → slice_get (set xs i y) k ≡ slice_get xs k
set_else [] i y k h = refl
set_else (x ∷ xs) zero y zero h = absurd (h refl)
set_else (x ∷ xs) zero y (suc k) h = refl
set_else (x ∷ xs) (suc i) y zero h = refl
set_else (x ∷ xs) (suc i) y (suc k) h = set_else xs i y k (λ e. h (ap suc e))

-- what stands in a list that is changed in one place stood there before, or is the new element
pub changed : {A : Type 0} (xs : List A) (i : ℕ) (y : A) (k : ℕ) (z : A) → slice_get (set xs i y) k ≡ Some z → (slice_get xs k ≡ Some z) ⊎ ((k ≡ i) × (y ≡ z))
changed [] i y k z h = inl h
changed (x ∷ xs) zero y zero z h = inr (refl, same_Some y z h)
changed (x ∷ xs) zero y (suc k) z h = inl h
changed (x ∷ xs) (suc i) y zero z h = inl h
changed (x ∷ xs) (suc i) y (suc k) z h =
    elim (changed xs i y k z h) [ inl old ↦ inl old | inr new ↦ inr (ap suc new.0, new.1) ]

pub reverse_push : {A : Type 0} (xs : List A) (x : A) → reverse (xs ++ x ∷ []) ≡ x ∷ reverse xs
reverse_push xs x = reverse-append xs (x ∷ [])

-- what stands in the rest of a list from a number on
pub in_rest : {A : Type 0} (xs : List A) (n k : ℕ) (x : A) → slice_get (take (length xs - n) (drop n xs)) k ≡ Some x → slice_get xs (n + k) ≡ Some x
in_rest xs n k x h = sym (behind n xs k) ∙ (cut (length xs - n) (drop n xs) k x h).1

pub of_rest : {A : Type 0} (xs : List A) (n k : ℕ) (x : A) → n + k < length xs → slice_get xs (n + k) ≡ Some x → slice_get (take (length xs - n) (drop n xs)) k ≡ Some x
of_rest xs n k x less h = cut_keeps (length xs - n) (drop n xs) k (omega arith) ∙ behind n xs k ∙ h

-- a list in place of one as long
pub replaced : {A : Type 0} (xs ys : List A) → length xs ≡ length ys → take (length ys) (xs ++ drop (length xs) ys) ≡ xs
replaced [] [] e = refl
replaced [] (y ∷ ys) e = absurd (omega arith)
replaced (x ∷ xs) [] e = absurd (omega arith)
replaced (x ∷ xs) (y ∷ ys) e = ap (λ zs. x ∷ zs) (replaced xs ys (omega arith))

pub at_joint : {A : Type 0} (xs ys : List A) (k : ℕ) → slice_get (xs ++ ys) (length xs + k) ≡ slice_get ys k
at_joint [] ys k = ap (slice_get ys) (let e : 0 + k ≡ k = omega arith in e)
at_joint (x ∷ xs) ys k = ap (slice_get (x ∷ xs ++ ys)) (let e : suc (length xs) + k ≡ suc (length xs + k) = omega arith in e) ∙ at_joint xs ys k

-- what stands in two lists, one behind the other, stands in the one or in the other
pub joined : {A : Type 0} (xs ys : List A) (k : ℕ) (x : A) → slice_get (xs ++ ys) k ≡ Some x → (slice_get xs k ≡ Some x) ⊎ ((n : ℕ) × (k ≡ length xs + n) × (slice_get ys n ≡ Some x))
joined [] ys k x h = inr (k, (let e : k ≡ 0 + k = omega arith in e), h)
joined (y ∷ xs) ys zero x h = inl h
joined (y ∷ xs) ys (suc k) x h =
    elim (joined xs ys k x h) [ inl front ↦ inl front | inr back ↦ inr (back.0, omega arith, back.2) ]
