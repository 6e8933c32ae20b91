-- The words of constants are numbers of their types.
use Rattle.std.proofs.Common.{◌≡◌, ℕ, ℤ, pos, negsuc, zero, suc, ◌<◌, ◌≤◌, ◌-◌, ◌*◌, ◌^◌, ◌%◌, Bool, true, false, ◌&&◌, ◌==◌, nat_lt, if◌then◌else◌, Option, Some, None, option_map, IfSome, refl, sym, subst, ◌∙◌, arith}
use Rattle.std.specs.Int.{from_bool, is_negative}
use Rattle.std.proofs.lemmas.Bool.{eq-eqb, eqb-true, ltb-false}
use Rattle.std.proofs.lemmas.Nat.{and_le_l, or_of_32, xor_of_32}
use Rattle.cstar_base.specs.declared.elem.Elem.{Elem}
use Rattle.cstar_base.specs.declared.operators.Op.{Op}
use Rattle.cstar_base.specs.declared.operators.Op.TheVariants as O
use Rattle.cstar_base.specs.Numbers.{converted, number_of, residue, truth_of}
use Rattle.cstar_base.specs.Operators.{divides, operand, operate, outcome, sum_of, difference_of, product_of, quotient_of, remainder_of, modulus_of, lesser_of, greater_of, shifted_left, shifted_right}
use Rattle.cstar_base.proofs.NumberLaws.{kind_bits, residue_below, residue_of_number, residue_of_pos}
use Rattle.cstar_tree.specs.declared.typed.UnaryOp.{UnaryOp}
use Rattle.cstar_tree.specs.declared.typed.UnaryOp.TheVariants as U
use Rattle.cstar_tree.specs.Conversions.{common, int, promoted, unsigned}
use Rattle.cstar_tree.specs.Operations.{compares, left_elem, result_elem, right_elem, shifts}
use Rattle.source_meaning.specs.Constants.{then_value}
use Rattle.source_meaning.specs.Values.{unary_of}

-- a value that is only mapped
pub then_mapped : (f : ℕ → ℕ) (value : Option ℕ) → then_value value (λ v. Some (f v)) ≡ option_map f value
then_mapped f None = refl
then_mapped f (Some v) = refl

truth_below : (z : ℤ) → truth_of z < 2
unfolding truth_of
truth_below (pos zero) = omega arith
truth_below (pos (suc n)) = omega arith
truth_below (negsuc n) = omega arith

-- ---- conversions

by_width : (one : Bool) (bits : ℕ) (z : ℤ) → one ≡ (bits == 1) → (if one then truth_of z else residue bits z) < 2 ^ bits
by_width true bits z is = subst (λ (n : ℕ). truth_of z < 2 ^ n) (sym (eqb-true bits 1 (sym is))) (truth_below z)
by_width false bits z is = residue_below bits z

pub converted_below : (to from : Elem) (w : ℕ) → converted to from w < 2 ^ to.bits
unfolding converted
converted_below to from w = by_width (to.bits == 1) to.bits (number_of from.bits from.signed w) refl

-- a word of 32 bits stays what it is
pub converted_same : (elem : Elem) (w : ℕ) → elem.bits ≡ 32 → w < 2 ^ elem.bits → converted elem elem w ≡ w
unfolding converted
converted_same elem w wide few =
    let z = number_of elem.bits elem.signed w in
    subst (λ (n : ℕ). (if n == 1 then truth_of z else residue elem.bits z) ≡ w) (sym wide) (residue_of_number elem.bits elem.signed w few)

pub word_fits : (n : ℕ) → n < 2 ^ 32 → (residue 32 (pos n) == n) ≡ true
word_fits n few = eq-eqb (residue 32 (pos n)) n (residue_of_pos 32 n ∙ omega arith)

-- ---- operators

pub from_bool_below : (b : Bool) → from_bool b < 2 ^ 32
from_bool_below true = omega arith
from_bool_below false = omega arith

either_below : (b : Bool) (m n : ℕ) → m < 2 ^ 32 → n < 2 ^ 32 → (if b then m else n) < 2 ^ 32
either_below true m n few few_n = few
either_below false m n few few_n = few_n

zero_or : (b : Bool) (n : ℕ) → n < 2 ^ 32 → (if b then 0 else n) < 2 ^ 32
zero_or b n few = either_below b 0 n (omega arith) few

remainder_below : (n : ℕ) → n % 2 ^ 32 < 2 ^ 32
remainder_below n = omega arith

complement_below : (w : ℕ) → 2 ^ 32 - 1 - w < 2 ^ 32
complement_below w = omega arith

outcome_below : (o : Op) (unsigned : Bool) (a b : ℕ) → a < 2 ^ 32 → b < 2 ^ 32 → outcome o 32 unsigned a b < 2 ^ 32
unfolding outcome sum_of difference_of product_of quotient_of remainder_of modulus_of lesser_of greater_of shifted_left shifted_right
outcome_below O.Add unsigned a b few few_b = residue_below 32 _
outcome_below O.Sub unsigned a b few few_b = residue_below 32 _
outcome_below O.Mul unsigned a b few few_b = residue_below 32 _
outcome_below O.Div unsigned a b few few_b = zero_or (b == 0) _ (residue_below 32 _)
outcome_below O.Rem unsigned a b few few_b = zero_or (b == 0) _ (residue_below 32 _)
outcome_below O.Mod unsigned a b few few_b = zero_or (b == 0) _ (residue_below 32 _)
outcome_below O.And unsigned a b few few_b = omega (arith, and_le_l a b)
outcome_below O.Or unsigned a b few few_b = or_of_32 a b few few_b
outcome_below O.Xor unsigned a b few few_b = xor_of_32 a b few few_b
outcome_below O.Min unsigned a b few few_b = residue_below 32 _
outcome_below O.Max unsigned a b few few_b = residue_below 32 _
outcome_below O.Shl unsigned a b few few_b = either_below (nat_lt b 32) _ 0 (remainder_below (a * 2 ^ b)) (omega arith)
outcome_below O.Shr unsigned a b few few_b = either_below (nat_lt b 32) _ _ (residue_below 32 _) (either_below (is_negative (operand 32 unsigned a)) (2 ^ 32 - 1) 0 (omega arith) (omega arith))
outcome_below O.Eq unsigned a b few few_b = from_bool_below _
outcome_below O.Ne unsigned a b few few_b = from_bool_below _
outcome_below O.Lt unsigned a b few few_b = from_bool_below _
outcome_below O.Le unsigned a b few few_b = from_bool_below _
outcome_below O.Gt unsigned a b few few_b = from_bool_below _
outcome_below O.Ge unsigned a b few few_b = from_bool_below _

pub unary_below : (sign : UnaryOp) (w : ℕ) → w < 2 ^ 32 → unary_of sign w < 2 ^ 32
unfolding unary_of difference_of
unary_below U.Plus w few = few
unary_below U.Minus w few = residue_below 32 _
unary_below U.Complement w few = complement_below w
unary_below U.Not w few = from_bool_below (w == 0)

unless_zero : (b : Bool) (n : ℕ) → n < 2 ^ 32 → IfSome (if b then None else Some n) (λ w. w < 2 ^ 32)
unless_zero true n few = tt
unless_zero false n few = few

pub operate_below : (o : Op) (unsigned : Bool) (a b : ℕ) → a < 2 ^ 32 → b < 2 ^ 32 → IfSome (operate o unsigned a b) (λ w. w < 2 ^ 32)
unfolding operate
operate_below o unsigned a b few few_b = unless_zero (divides o && b == 0) _ (outcome_below o unsigned a b few few_b)

-- ---- the operators' types

wide_if : (b : Bool) (elem : Elem) → b ≡ nat_lt elem.bits 32 → (if b then int else elem).bits ≡ 32
wide_if true elem is = refl
wide_if false elem is =
    let small = (kind_bits elem.bits elem.signed elem.kind).1 in
    let large : 32 ≤ elem.bits = omega (arith, ltb-false elem.bits 32 (sym is)) in
    omega arith

pub promoted_wide : (elem : Elem) → (promoted elem).bits ≡ 32
unfolding promoted
promoted_wide elem = wide_if (nat_lt elem.bits 32) elem refl

signed_if : (b : Bool) → (if b then int else unsigned).bits ≡ 32
signed_if true = refl
signed_if false = refl

pub common_wide : (a b : Elem) → (common a b).bits ≡ 32
unfolding common
common_wide a b = signed_if ((promoted a).signed && (promoted b).signed)

one_wide : (c : Bool) (d e : Elem) → d.bits ≡ 32 → e.bits ≡ 32 → (if c then d else e).bits ≡ 32
one_wide true d e p q = p
one_wide false d e p q = q

pub left_wide : (op : Op) (a b : Elem) → (left_elem op a b).bits ≡ 32
unfolding left_elem
left_wide op a b = one_wide (shifts op) (promoted a) (common a b) (promoted_wide a) (common_wide a b)

pub right_wide : (op : Op) (a b : Elem) → (right_elem op a b).bits ≡ 32
unfolding right_elem
right_wide op a b = one_wide (shifts op) (promoted b) (common a b) (promoted_wide b) (common_wide a b)

pub result_wide : (op : Op) (a b : Elem) → (result_elem op a b).bits ≡ 32
unfolding result_elem
result_wide op a b = one_wide (compares op) int (left_elem op a b) refl (left_wide op a b)
