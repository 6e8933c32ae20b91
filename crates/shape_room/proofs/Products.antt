-- Products that are counted up to a greatest number.
use Rattle.std.proofs.Common.{◌≡◌, ◌+◌, ◌*◌, ◌<◌, ◌≤◌, ℕ, zero, suc, List, ◌∷◌, drop, get_or, length, ◌⊎◌, inl, inr, sym, ap, ◌∙◌, arith}
use Rattle.std.proofs.lemmas.Bool.{cases_lt}
use Rattle.std.proofs.lemmas.List.{drop_all}
use Rattle.std.proofs.Math.Nat.{le-mul_of_pos_right, le_of_lt, le_trans, min-eq_left, min-eq_right, min-le_right, mul-le-mul_right, mul_assoc, zero-lt-suc}
use Rattle.std.proofs.Math.Seq.{drop-cons}
use Rattle.std.specs.Prelude.{min}
use Rattle.cstar_tree.specs.Constants.{product}

-- of a factor only what is counted matters
pub up_to : (most a b : ℕ) → min (min a most * b) most ≡ min (a * b) most
up_to most a b = step (cases_lt most a) b
  where
    step : (most < a) ⊎ (a ≤ most) → (b : ℕ) → min (min a most * b) most ≡ min (a * b) most
    step (inr small) b = ap (λ (k : ℕ). min (k * b) most) (min-eq_left small)
    step (inl great) zero = rw (min-eq_right (le_of_lt great)) (ap (λ (k : ℕ). min k most) (omega arith))
    step (inl great) (suc b) =
        let counted : most ≤ most * suc b = le-mul_of_pos_right most (zero-lt-suc b) in
        let whole : most ≤ a * suc b = le_trans counted (mul-le-mul_right (suc b) (le_of_lt great)) in
        rw (min-eq_right (le_of_lt great)) (min-eq_right counted ∙ sym (min-eq_right whole))

-- the product of the factors before the i-th is counted
abbrev pub IsCounted : ℕ → List ℕ → ℕ → ℕ → Type 0
IsCounted most ns i counted = (min (counted * product (drop i ns)) most ≡ min (product ns) most) × (counted ≤ most)

pub counted_more : (most : ℕ) (ns : List ℕ) (i counted n new : ℕ) → i < length ns → n ≡ get_or ns i 0 → new ≡ min (counted * n) most → IsCounted most ns i counted → IsCounted most ns (i + 1) new
unfolding product
counted_more most ns i counted n new within n_is new_is before =
    let rest : drop i ns ≡ n ∷ drop (suc i) ns = drop-cons ns i 0 within ∙ ap (λ (k : ℕ). k ∷ drop (suc i) ns) (sym n_is) in
    let all = ap (λ (ms : List ℕ). min (counted * product ms) most) (sym rest) ∙ before.0 in
    let next : i + 1 ≡ suc i = omega arith in
    rw (next, new_is) (up_to most (counted * n) (product (drop (suc i) ns)) ∙ (ap (λ (k : ℕ). min k most) (mul_assoc counted n (product (drop (suc i) ns))) ∙ all), min-le_right (counted * n) most)

pub all_counted : (most : ℕ) (ns : List ℕ) (i counted : ℕ) → length ns ≤ i → IsCounted most ns i counted → counted ≡ min (product ns) most
unfolding product
all_counted most ns i counted end before =
    let one : counted * product (drop i ns) ≡ counted = ap (λ (ms : List ℕ). counted * product ms) (drop_all i ns end) ∙ omega arith in
    sym (min-eq_left before.1) ∙ (ap (λ (k : ℕ). min k most) (sym one) ∙ before.0)
