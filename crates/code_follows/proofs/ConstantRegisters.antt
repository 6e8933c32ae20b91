-- The registers in which constants stand.
use Rattle.std.proofs.Common.{◌≡◌, ℕ, suc, ◌+◌, ◌<◌, ◌≤◌, ◌==◌, Bool, true, false, List, [], ◌∷◌, length, slice_index, Some, refl, if◌then◌else◌, arith}
use Rattle.std.proofs.lemmas.Bool.{eqb-true}
use Rattle.lower_base.specs.Constants.{constant_register, first_free, register_with}
use Rattle.lower_base.specs.Layouts.{Layout}
use Rattle.code_follows.proofs.Standing.{some_same}

-- where a constant's register is
pub record IsFoundAt (words : List ℕ) (word first r : ℕ) : Type 0 where
  pub index : ℕ
  pub inside : index < length words
  pub register : r ≡ first + index
  pub value : slice_index words index ≡ word

search : (words : List ℕ) (word first r : ℕ) → register_with word words first ≡ Some r → IsFoundAt words word first r
unfolding register_with
search [] word first r is = cc
search (w ∷ words) word first r is = by (w == word) refl (λ e. search words word (first + 1) r e) is
  where
    by : (b : Bool) → (w == word) ≡ b → (register_with word words (first + 1) ≡ Some r → IsFoundAt words word (first + 1) r) → (if b then Some first else register_with word words (first + 1)) ≡ Some r → IsFoundAt (w ∷ words) word first r
    by true same later e = let h = some_same first r e in record { index = 0; inside = omega arith; register = omega (arith, h); value = eqb-true w word same }
    by false same later e = let h = later e in record { index = suc h.index; inside = inside_more h.index h.inside; register = moved h.index h.register; value = h.value }
      where
        inside_more : (i : ℕ) → i < length words → suc i < length (w ∷ words)
        inside_more i h = omega (arith, h)

        moved : (i : ℕ) → r ≡ first + 1 + i → r ≡ first + suc i
        moved i h = omega (arith, h)

pub constant_at : (l : Layout) (word r : ℕ) → constant_register l word ≡ Some r → IsFoundAt l.constants word l.end r
unfolding constant_register
constant_at l word r is = search l.constants word l.end r is

-- they stand behind the variables, and below the registers of values
pub behind_variables : (l : Layout) (word r : ℕ) → constant_register l word ≡ Some r → l.end ≤ r
behind_variables l word r is = let h = constant_at l word r is in omega (arith, h.register)

pub below_values : (l : Layout) (word r : ℕ) → constant_register l word ≡ Some r → r < first_free l
unfolding first_free
below_values l word r is = let h = constant_at l word r is in omega (arith, h.register, h.inside)
