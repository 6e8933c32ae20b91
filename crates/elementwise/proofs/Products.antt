-- The product of two numbers is the same whether they are read signed or not.
use Rattle.std.proofs.Common.{◌≡◌, ℕ, suc, ◌+◌, ◌-◌, ◌*◌, ◌^◌, ◌<◌, true, false, pos, negsuc, neg_ℤ, ◌*ℤ◌, sym, ◌∙◌, ap, inl, inr, arith, add-mul}
use Rattle.std.proofs.lemmas.Int.{ints}
use Rattle.std.proofs.lemmas.Bool.{cases_lt}
use Rattle.std.proofs.Math.Nat.{add-mul-mod_self_right, mul_comm}
use Rattle.cstar_base.specs.Numbers.{residue, number_of}
use Rattle.cstar_base.specs.Operators.{operand, product_of}
use Rattle.cstar_base.proofs.NumberLaws.{residue_is, residue_of_pos, number_in_lower}
use Rattle.lane_kernels.specs.Numbers as N
use Rattle.elementwise.proofs.Orders.{upper}

-- what a number lacks of the modulus, times another, lacks the product of a multiple
lacks : (m a x y : ℕ) → a + x ≡ m → a * y + x * y ≡ y * m
lacks m a x y e = sym (add-mul a x y) ∙ ap (λ s. s * y) e ∙ mul_comm m y

crossed : (a b x y : ℕ) → a * b + (x * (b + y) + y * (a + x)) ≡ x * y + (a + x) * (b + y)
crossed a b x y = omega arith

both_lack : (m a b x y : ℕ) → a + x ≡ m → b + y ≡ m → a * b + (x + y) * m ≡ x * y + m * m
both_lack m a b x y ea eb =
    ap (λ s. a * b + s) (add-mul x y m ∙ ap (λ s. x * s + y * m) (sym eb) ∙ ap (λ s. x * (b + y) + y * s) (sym ea))
    ∙ crossed a b x y ∙ ap (λ s. x * y + s * (b + y)) ea ∙ ap (λ s. x * y + m * s) eb

pub product_is : (n x y : ℕ) → x < 2 ^ n → y < 2 ^ n → N.product_of n x y ≡ product_of n false x y
unfolding product_of operand
product_is n x y xb yb =
    let m : ℕ = 2 ^ n in
    let a : ℕ = m - 1 - x in
    let b : ℕ = m - 1 - y in
    let xa : suc a + x ≡ m = omega (arith, xb) in
    let ya : suc b + y ≡ m = omega (arith, yb) in
    sym (elim (cases_lt x (2 ^ (n - 1))) [
      | inl low ↦ ap (λ z. residue n (z *ℤ number_of n true y)) (number_in_lower n x low) ∙ elim (cases_lt y (2 ^ (n - 1))) [
        | inl below ↦ ap (λ z. residue n (pos x *ℤ z)) (number_in_lower n y below) ∙ residue_of_pos n (x * y)
        | inr above ↦ ap (λ z. residue n (pos x *ℤ z)) (upper n y yb above)
            ∙ residue_is n (neg_ℤ (pos (x * suc b))) x (x * y) (omega (arith, ints, lacks m (suc b) y x ya, mul_comm (suc b) x, mul_comm y x))
      ]
      | inr high ↦ ap (λ z. residue n (z *ℤ number_of n true y)) (upper n x xb high) ∙ elim (cases_lt y (2 ^ (n - 1))) [
        | inl below ↦ ap (λ z. residue n (negsuc a *ℤ z)) (number_in_lower n y below)
            ∙ residue_is n (neg_ℤ (pos (suc a * y))) y (x * y) (omega (arith, ints, lacks m (suc a) x y xa))
        | inr above ↦ ap (λ z. residue n (negsuc a *ℤ z)) (upper n y yb above)
            ∙ residue_is n (pos (suc a * suc b)) (x + y) (x * y + m * m) (omega (arith, ints, both_lack m (suc a) (suc b) x y xa ya))
            ∙ add-mul-mod_self_right (x * y) m m
      ]
    ])
