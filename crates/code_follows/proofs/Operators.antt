-- What the machine's scalar instructions compute is what the operators of the language give.
use Rattle.std.proofs.Common.{◌≡◌, ◌∙◌, ℕ, ◌<◌, ◌^◌, Bool, true, false, not, ◌&&◌, ◌==◌, pos, neg_ℤ, ◌-ℤ◌, if◌then◌else◌, Option, Some, None, refl, sym, ap, arith, nat_lt, ◌||◌}
use Rattle.std.specs.Prelude.{unwrap_or, IfSome}
use Rattle.std.proofs.lemmas.Int.{ints}
use Rattle.std.proofs.lemmas.Bool.Decides.{nat_tests}
use Rattle.cstar_base.specs.declared.operators.Op.{Op}
use Rattle.cstar_base.specs.declared.operators.Op.TheVariants as P
use Rattle.cstar_base.specs.declared.elem.Elem.{Elem}
use Rattle.cstar_base.specs.Numbers.{number_of, residue}
use Rattle.cstar_base.specs.Operators.{difference_of, divides, floor_rem, modulus_of, operand, operate, outcome, product_of, remainder_of, sum_of}
use Rattle.cstar_base.proofs.OperatorLaws.{difference_by_residues, product_by_residues, sum_by_residues}
use Rattle.cstar_tree.specs.declared.typed.UnaryOp.TheVariants as U
use Rattle.constant_trees.proofs.Words.{operate_below}
use Rattle.lower_base.specs.declared.operators.Machine.{Machine}
use Rattle.lower_base.specs.declared.operators.Machine.TheVariants as M
use Rattle.lower_base.specs.Operators.{is_signed, machine_of, operation_of}
use Rattle.paris_code.specs.Operators.{comparison_of, operator_of}
use Rattle.paris_code.specs.Scalar.{compared, operated}
use Rattle.source_meaning.specs.Values.{unary_of}

-- what the machine gives
unfoldable pub by_machine : Machine → ℕ → ℕ → ℕ
by_machine (M.Operate act) a b = operated act a b
by_machine (M.Compare relation) a b = compared relation a b

-- a division by what is not 0
divided : (o : Op) (unsigned : Bool) (a b : ℕ) → (b == 0) ≡ false → unwrap_or (if divides o && (b == 0) then None else Some (outcome o 32 unsigned a b)) 0 ≡ outcome o 32 unsigned a b
divided o unsigned a b some = by (divides o) (b == 0) some
  where
    by : (d z : Bool) → z ≡ false → unwrap_or (if d && z then None else Some (outcome o 32 unsigned a b)) 0 ≡ outcome o 32 unsigned a b
    by true false e = refl
    by false false e = refl
    by d true e = cc

-- modulo by an unsigned divisor is the remainder
unsigned_modulus : (a b : ℕ) → remainder_of 32 true a b ≡ modulus_of 32 true a b
unfolding remainder_of modulus_of operand number_of floor_rem
unsigned_modulus a b = refl

module _ (a b : ℕ) (few : a < 2 ^ 32) (small : b < 2 ^ 32) where
  sums : (one other : Bool) → sum_of 32 one a b ≡ sum_of 32 other a b
  sums one other = sum_by_residues 32 one a b ∙ sym (sum_by_residues 32 other a b)

  differences : (one other : Bool) → difference_of 32 one a b ≡ difference_of 32 other a b
  differences one other = difference_by_residues 32 one a b (omega (arith, small)) ∙ sym (difference_by_residues 32 other a b (omega (arith, small)))

  products : (one other : Bool) → product_of 32 one a b ≡ product_of 32 other a b
  products one other = product_by_residues one a b few small ∙ sym (product_by_residues other a b few small)

  pub machine_same : (o : Op) (signed : Bool) → (divides o ≡ true → (b == 0) ≡ false) → by_machine (machine_of o signed) a b ≡ outcome o 32 (not signed) a b
  unfolding by_machine machine_of operation_of operated compared operate divides outcome
  machine_same P.Add signed some = sums false (not signed)
  machine_same P.Sub signed some = differences false (not signed)
  machine_same P.Mul signed some = products false (not signed)
  machine_same P.Div true some = divided P.Div false a b (some refl)
  machine_same P.Div false some = divided P.Div true a b (some refl)
  machine_same P.Rem true some = divided P.Rem false a b (some refl)
  machine_same P.Rem false some = divided P.Rem true a b (some refl)
  machine_same P.Mod true some = divided P.Mod false a b (some refl)
  machine_same P.Mod false some = divided P.Rem true a b (some refl) ∙ unsigned_modulus a b
  machine_same P.And signed some = refl
  machine_same P.Or signed some = refl
  machine_same P.Xor signed some = refl
  machine_same P.Min true some = refl
  machine_same P.Min false some = refl
  machine_same P.Max true some = refl
  machine_same P.Max false some = refl
  machine_same P.Shl signed some = refl
  machine_same P.Shr true some = refl
  machine_same P.Shr false some = refl
  machine_same P.Eq signed some = refl
  machine_same P.Ne signed some = refl
  machine_same P.Lt true some = refl
  machine_same P.Lt false some = refl
  machine_same P.Le true some = refl
  machine_same P.Le false some = refl
  machine_same P.Gt true some = refl
  machine_same P.Gt false some = refl
  machine_same P.Ge true some = refl
  machine_same P.Ge false some = refl

  small_or_zero : (o : Option ℕ) → IfSome o (λ w. w < 2 ^ 32) → unwrap_or o 0 < 2 ^ 32
  small_or_zero None h = omega arith
  small_or_zero (Some w) h = h

  pub machine_below : (m : Machine) → by_machine m a b < 2 ^ 32
  unfolding by_machine operated compared
  machine_below (M.Operate act) = small_or_zero _ (operate_below (operator_of act).0 (operator_of act).1 a b few small)
  machine_below (M.Compare relation) = small_or_zero _ (operate_below (comparison_of relation).0 (comparison_of relation).1 a b few small)

-- a number of 32 bits is read as its type says
pub wide_signed : (elem : Elem) → elem.bits ≡ 32 → is_signed elem ≡ elem.signed
unfolding is_signed
wide_signed elem wide = by elem.signed (nat_lt elem.bits 32) (let h : nat_lt elem.bits 32 ≡ false = grind (arith, nat_tests, wide) in h)
  where
    by : (s n : Bool) → n ≡ false → (s || n) ≡ s
    by true n e = refl
    by false false e = refl
    by false true e = cc

pub minus_same : (w : ℕ) → residue 32 (neg_ℤ (pos w)) ≡ unary_of U.Minus w
unfolding unary_of difference_of operand number_of
minus_same w = ap (residue 32) (let e : neg_ℤ (pos w) ≡ pos 0 -ℤ pos w = omega (arith, ints) in e)
