-- What a lane gets of a division by a power of 2.
use Rattle.std.proofs.Common.{◌≡◌, ℕ, ◌+◌, ◌-◌, ◌%◌, ◌^◌, ◌<◌, min, false, cond, nat_eq, sym, ◌∙◌, ap, inl, inr, arith}
use Rattle.std.specs.Int.{bit_at}
use Rattle.std.proofs.lemmas.Bool.{cases_eq, eq-eqb, ne_eqb}
use Rattle.std.proofs.Math.Nat.{mod-mod}
use Rattle.cstar_base.specs.Operators.{quotient_of}
use Rattle.lane_kernels.specs.Numbers as N
use Rattle.elementwise.proofs.Powers.{below_zero, not_below_zero, divided_low, divided_up}

-- the quotient, by the sign, by whether it leaves no remainder, and by what is added for these
pub lane_divided : (n k x sign whole more : ℕ) → k + 1 < n → x < 2 ^ n → sign ≡ bit_at x (n - 1) → sign < 2 → whole ≡ cond (nat_eq (x % 2 ^ k) 0) 1 0 → more ≡ min sign (1 - whole)
    → (N.shifted_right false n k x + more) % 2 ^ n ≡ quotient_of n false x (2 ^ k)
lane_divided n k x sign whole more h b is two even e =
    let shift : ℕ = N.shifted_right false n k x in
    elim (cases_eq sign 1) [
      | inl one ↦
          let up : more ≡ cond (nat_eq (x % 2 ^ k) 0) 0 1 = elim (cases_eq (x % 2 ^ k) 0) [
            | inl none ↦
                let w : whole ≡ 1 = even ∙ ap (λ t. cond t 1 0) (eq-eqb (x % 2 ^ k) 0 none) in
                (let z : more ≡ 0 = omega (arith, e, one, w) in z) ∙ sym (ap (λ t. cond t 0 1) (eq-eqb (x % 2 ^ k) 0 none))
            | inr some ↦
                let w : whole ≡ 0 = even ∙ ap (λ t. cond t 1 0) (ne_eqb (x % 2 ^ k) 0 some) in
                (let z : more ≡ 1 = omega (arith, e, one, w) in z) ∙ sym (ap (λ t. cond t 0 1) (ne_eqb (x % 2 ^ k) 0 some))
          ] in
          ap (λ m. (shift + m) % 2 ^ n) up ∙ divided_up n k x h (below_zero n x (omega (arith, h)) (sym is ∙ one)) b
      | inr none ↦
          ap (λ m. m % 2 ^ n) (let z : shift + more ≡ shift = omega (arith, e, none, two) in z) ∙ mod-mod _ (2 ^ n)
          ∙ divided_low n k x h (not_below_zero n x (omega (arith, h)) b (sym is ∙ omega (arith, none, two)))
    ]
