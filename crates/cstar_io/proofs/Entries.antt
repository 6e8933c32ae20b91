-- What a list of named entries holds under a name, after an entry is changed or added.
use Rattle.std.proofs.Common.{◌≡◌, ◌≢◌, ℕ, zero, suc, ◌<◌, ◌≤◌, Bool, true, false, cond, nat_eq, List, [], ◌∷◌, ◌++◌, length, get_or, set, Some, None, refl, sym, ◌∙◌, ap, arith}
use Rattle.std.proofs.lemmas.Grind.{common_steps}
use Rattle.std.specs.List.{position, position_or_len}
use Rattle.std.specs.Cmp.Lexicographic.{pointwise, same_text, bytes_decides}
use Rattle.std.proofs.lemmas.List.Quantifiers.{position-Some}
use Rattle.std.proofs.lemmas.List.Sums.{fails_before_first}
use Rattle.cstar_io.specs.Memory.{under}

-- two texts that differ do not compare equal
pub differs : (xs ys : List ℕ) → xs ≢ ys → pointwise nat_eq xs ys ≡ false
differs xs ys other =
    elim (pointwise nat_eq xs ys) as (λ b. b ≡ pointwise nat_eq xs ys → b ≡ false)
    [ true ↦ λ is. absurd (other (same_text xs ys is)) | false ↦ λ is. refl ] refl

-- where no entry passes, the search has not stopped
pub none_pass : {X : Type 0} (p : X → Bool) (xs : List X) (d : X) → position p xs ≡ None → (k : ℕ) → k < length xs → p (get_or xs k d) ≡ false
none_pass p xs d none k below =
    let past : length xs ≤ position_or_len p xs = grind (arith, common_steps) in
    fails_before_first p xs k d (omega (arith))

-- nothing is under a name that no entry has
pub under_none : {X : Type 0} (name_of bytes_of : X → List ℕ) (name : List ℕ) (d : X) (xs : List X) → ((k : ℕ) → k < length xs → pointwise nat_eq (name_of (get_or xs k d)) name ≡ false) → under xs name_of bytes_of name ≡ None
under_none name_of bytes_of name d [] none = refl
under_none name_of bytes_of name d (x ∷ xs) none =
    ap (λ b. cond b (Some (bytes_of x)) (under xs name_of bytes_of name)) (none 0 (omega (arith)))
    ∙ under_none name_of bytes_of name d xs (λ k below. none (suc k) (omega (arith)))

-- the first entry of a name gives what is under it
pub under_first : {X : Type 0} (name_of bytes_of : X → List ℕ) (name : List ℕ) (d : X) (xs : List X) (i : ℕ) → i < length xs → pointwise nat_eq (name_of (get_or xs i d)) name ≡ true → ((k : ℕ) → k < i → pointwise nat_eq (name_of (get_or xs k d)) name ≡ false) → under xs name_of bytes_of name ≡ Some (bytes_of (get_or xs i d))
under_first name_of bytes_of name d [] i below is before = absurd (omega (arith, below))
under_first name_of bytes_of name d (x ∷ xs) zero below is before =
    ap (λ b. cond b (Some (bytes_of x)) (under xs name_of bytes_of name)) is
under_first name_of bytes_of name d (x ∷ xs) (suc i) below is before =
    ap (λ b. cond b (Some (bytes_of x)) (under xs name_of bytes_of name)) (before 0 (omega (arith)))
    ∙ under_first name_of bytes_of name d xs i (omega (arith, below)) is (λ k less. before (suc k) (omega (arith, less)))

-- after a change of the first entry of a name, that name has the new entry's bytes
pub under_changed : {X : Type 0} (name_of bytes_of : X → List ℕ) (name : List ℕ) (d y : X) (xs : List X) (i : ℕ) → i < length xs → pointwise nat_eq (name_of y) name ≡ true → ((k : ℕ) → k < i → pointwise nat_eq (name_of (get_or xs k d)) name ≡ false) → under (set xs i y) name_of bytes_of name ≡ Some (bytes_of y)
under_changed name_of bytes_of name d y [] i below is before = absurd (omega (arith, below))
under_changed name_of bytes_of name d y (x ∷ xs) zero below is before =
    ap (λ b. cond b (Some (bytes_of y)) (under xs name_of bytes_of name)) is
under_changed name_of bytes_of name d y (x ∷ xs) (suc i) below is before =
    ap (λ b. cond b (Some (bytes_of x)) (under (set xs i y) name_of bytes_of name)) (before 0 (omega (arith)))
    ∙ under_changed name_of bytes_of name d y xs i (omega (arith, below)) is (λ k less. before (suc k) (omega (arith, less)))

-- a change of an entry, of another name before and after, changes nothing under this name
pub under_unchanged : {X : Type 0} (name_of bytes_of : X → List ℕ) (name : List ℕ) (d y : X) (xs : List X) (i : ℕ) → i < length xs → pointwise nat_eq (name_of (get_or xs i d)) name ≡ false → pointwise nat_eq (name_of y) name ≡ false → under (set xs i y) name_of bytes_of name ≡ under xs name_of bytes_of name
under_unchanged name_of bytes_of name d y [] i below was is = absurd (omega (arith, below))
under_unchanged name_of bytes_of name d y (x ∷ xs) zero below was is =
    ap (λ b. cond b (Some (bytes_of y)) (under xs name_of bytes_of name)) is
    ∙ sym (ap (λ b. cond b (Some (bytes_of x)) (under xs name_of bytes_of name)) was)
under_unchanged name_of bytes_of name d y (x ∷ xs) (suc i) below was is =
    ap (λ rest. cond (pointwise nat_eq (name_of x) name) (Some (bytes_of x)) rest)
    (under_unchanged name_of bytes_of name d y xs i (omega (arith, below)) was is)

-- an entry added behind entries of other names is the one under its name
pub under_added : {X : Type 0} (name_of bytes_of : X → List ℕ) (name : List ℕ) (d y : X) (xs : List X) → ((k : ℕ) → k < length xs → pointwise nat_eq (name_of (get_or xs k d)) name ≡ false) → pointwise nat_eq (name_of y) name ≡ true → under (xs ++ y ∷ []) name_of bytes_of name ≡ Some (bytes_of y)
under_added name_of bytes_of name d y [] none is =
    ap (λ b. cond b (Some (bytes_of y)) None) is
under_added name_of bytes_of name d y (x ∷ xs) none is =
    ap (λ b. cond b (Some (bytes_of x)) (under (xs ++ y ∷ []) name_of bytes_of name)) (none 0 (omega (arith)))
    ∙ under_added name_of bytes_of name d y xs (λ k below. none (suc k) (omega (arith))) is

-- an entry added of another name changes nothing under this name
pub under_kept : {X : Type 0} (name_of bytes_of : X → List ℕ) (name : List ℕ) (y : X) (xs : List X) → pointwise nat_eq (name_of y) name ≡ false → under (xs ++ y ∷ []) name_of bytes_of name ≡ under xs name_of bytes_of name
under_kept name_of bytes_of name y [] is = ap (λ b. cond b (Some (bytes_of y)) None) is
under_kept name_of bytes_of name y (x ∷ xs) is =
    ap (λ rest. cond (pointwise nat_eq (name_of x) name) (Some (bytes_of x)) rest) (under_kept name_of bytes_of name y xs is)

-- The same, told by `position`, of a list whose element y has the name itself.
module _ {X : Type 0} (name_of bytes_of : X → List ℕ) (name : List ℕ) where
  pub nothing_there : (xs : List X) → position (λ x. pointwise nat_eq (name_of x) name) xs ≡ None → under xs name_of bytes_of name ≡ None
  nothing_there [] none = refl
  nothing_there (x ∷ xs) none =
      under_none name_of bytes_of name x (x ∷ xs) (none_pass (λ x. pointwise nat_eq (name_of x) name) (x ∷ xs) x none)

  pub found_there : (xs : List X) (i : ℕ) (d : X) → position (λ x. pointwise nat_eq (name_of x) name) xs ≡ Some i → under xs name_of bytes_of name ≡ Some (bytes_of (get_or xs i d))
  found_there xs i d at =
      let facts = position-Some (λ x. pointwise nat_eq (name_of x) name) xs i d at in
      under_first name_of bytes_of name d xs i facts.0 facts.1 facts.2

  pub changed_there : (xs : List X) (i : ℕ) (y : X) → position (λ x. pointwise nat_eq (name_of x) name) xs ≡ Some i → name_of y ≡ name → under (set xs i y) name_of bytes_of name ≡ Some (bytes_of y)
  changed_there xs i y at is =
      let facts = position-Some (λ x. pointwise nat_eq (name_of x) name) xs i y at in
      under_changed name_of bytes_of name y y xs i facts.0 ((bytes_decides (name_of y) name).1 is) facts.2

  pub changed_elsewhere : (xs : List X) (i : ℕ) (y : X) → position (λ x. pointwise nat_eq (name_of x) name) xs ≡ Some i → name_of y ≡ name → (other : List ℕ) → other ≢ name → under (set xs i y) name_of bytes_of other ≡ under xs name_of bytes_of other
  changed_elsewhere xs i y at is other differ =
      let facts = position-Some (λ x. pointwise nat_eq (name_of x) name) xs i y at in
      let was = same_text (name_of (get_or xs i y)) name (sym facts.1) in
      under_unchanged name_of bytes_of other y y xs i facts.0
      (differs (name_of (get_or xs i y)) other (λ e. differ (sym e ∙ was)))
      (differs (name_of y) other (λ e. differ (sym e ∙ is)))

  pub added_there : (xs : List X) (y : X) → position (λ x. pointwise nat_eq (name_of x) name) xs ≡ None → name_of y ≡ name → under (xs ++ y ∷ []) name_of bytes_of name ≡ Some (bytes_of y)
  added_there xs y none is =
      under_added name_of bytes_of name y y xs (none_pass (λ x. pointwise nat_eq (name_of x) name) xs y none) ((bytes_decides (name_of y) name).1 is)

  pub added_elsewhere : (xs : List X) (y : X) → name_of y ≡ name → (other : List ℕ) → other ≢ name → under (xs ++ y ∷ []) name_of bytes_of other ≡ under xs name_of bytes_of other
  added_elsewhere xs y is other differ =
      under_kept name_of bytes_of other y xs (differs (name_of y) other (λ e. differ (sym e ∙ is)))

  pub name_there : (xs : List X) (i : ℕ) (was : X) → position (λ x. pointwise nat_eq (name_of x) name) xs ≡ Some i → was ≡ get_or xs i was → name_of was ≡ name
  name_there xs i was at is =
      let facts = position-Some (λ x. pointwise nat_eq (name_of x) name) xs i was at in
      ap name_of is ∙ same_text (name_of (get_or xs i was)) name (sym facts.1)
