-- The fold of values onto an old one is the operator on the old one and the fold of the values alone.
use Rattle.std.proofs.Common.{◌≡◌, ◌∙◌, ℕ, zero, suc, ◌+◌, ◌-◌, ◌<◌, ◌^◌, ◌%◌, Bool, true, false, not, Some, refl, sym, ap, arith, if◌then◌else◌}
use Rattle.cstar_base.specs.declared.elem.Elem.{Elem}
use Rattle.cstar_base.specs.declared.operators.Combiner.TheVariants as C
use Rattle.cstar_base.specs.Folds.{fold_once, identity_of}
use Rattle.cstar_base.specs.Numbers.{converted}
use Rattle.cstar_base.specs.Operators.{difference_of, outcome, sum_of}
use Rattle.cstar_base.specs.Orders.{fold_below}
use Rattle.cstar_base.proofs.FoldLaws.{fold_once_assoc, fold_once_below, fold_once_comm, identity_first}
use Rattle.cstar_base.proofs.OperatorLaws.{difference_by_residues, sum_by_residues}
use Rattle.cstar_tree.specs.declared.syntax.ReduceOp.{ReduceOp}
use Rattle.cstar_tree.specs.declared.syntax.ReduceOp.TheVariants as R
use Rattle.lower_base.specs.Operators.{assign_op_of, reduce_op_of}
use Rattle.source_meaning.specs.Reductions.{combiner_of, divides_by_zero, folded, folded_into, int_type, step_of}
use Rattle.code_follows.proofs.Following.{held}
use Rattle.code_follows.proofs.Words.{held_converted}
use Rattle.constant_trees.proofs.Words.{converted_below}
use Rattle.fields_follow.specs.Fragment.{assignment_of}
use Rattle.fields_follow.proofs.Folds.{identity_below}

-- the operator of such an assignment, which divides nothing
pub operator_is : (r : ReduceOp) → assign_op_of (assignment_of r) ≡ Some (reduce_op_of r)
unfolding assign_op_of reduce_op_of
operator_is R.Add = refl
operator_is R.Sub = refl
operator_is R.And = refl
operator_is R.Xor = refl
operator_is R.Or = refl
operator_is R.Min = refl
operator_is R.Max = refl

pub never_by_zero : (r : ReduceOp) (w : ℕ) → divides_by_zero (assignment_of r) w ≡ false
unfolding divides_by_zero
never_by_zero R.Add w = refl
never_by_zero R.Sub w = refl
never_by_zero R.And w = refl
never_by_zero R.Xor w = refl
never_by_zero R.Or w = refl
never_by_zero R.Min w = refl
never_by_zero R.Max w = refl

step_is : (r : ReduceOp) (unsigned : Bool) (a w : ℕ) → step_of (assignment_of r) unsigned a w ≡ outcome (reduce_op_of r) 32 unsigned a w
unfolding step_of reduce_op_of
step_is R.Add unsigned a w = refl
step_is R.Sub unsigned a w = refl
step_is R.And unsigned a w = refl
step_is R.Xor unsigned a w = refl
step_is R.Or unsigned a w = refl
step_is R.Min unsigned a w = refl
step_is R.Max unsigned a w = refl

not_last : (r : ReduceOp) → combiner_of r ≡ C.Last → ⊥
unfolding combiner_of
not_last R.Add is = cc
not_last R.Sub is = cc
not_last R.And is = cc
not_last R.Xor is = cc
not_last R.Or is = cc
not_last R.Min is = cc
not_last R.Max is = cc

pub held_below : (elem : Elem) (w : ℕ) → held elem w < 2 ^ 32
held_below elem w = converted_below int_type elem w

-- with the fold of nothing it changes nothing
nothing_more : (r : ReduceOp) (unsigned : Bool) (a : ℕ) → a < 2 ^ 32 → outcome (reduce_op_of r) 32 unsigned a (identity_of (combiner_of r) unsigned) ≡ a
unfolding outcome reduce_op_of combiner_of fold_once identity_of
nothing_more R.Sub unsigned a few = difference_by_residues 32 unsigned a 0 (omega arith) ∙ omega (arith, few)
nothing_more r unsigned a few = fold_once_comm (combiner_of r) unsigned a (identity_of (combiner_of r) unsigned) (not_last r) ∙ identity_first (combiner_of r) unsigned a few

less_and_less : (a b c : ℕ) → b < 2 ^ 32 → c < 2 ^ 32 → ((a + (2 ^ 32 - b)) % 2 ^ 32 + (2 ^ 32 - c)) % 2 ^ 32 ≡ (a + (2 ^ 32 - (b + c) % 2 ^ 32)) % 2 ^ 32
less_and_less a b c few small = omega (arith, few, small)

-- one value more
one_more : (r : ReduceOp) (unsigned : Bool) (a b c : ℕ) → a < 2 ^ 32 → b < 2 ^ 32 → c < 2 ^ 32 → outcome (reduce_op_of r) 32 unsigned (outcome (reduce_op_of r) 32 unsigned a b) c ≡ outcome (reduce_op_of r) 32 unsigned a (fold_once (combiner_of r) unsigned b c)
unfolding outcome reduce_op_of combiner_of fold_once
one_more R.Sub unsigned a b c few small less =
    difference_by_residues 32 unsigned (difference_of 32 unsigned a b) c (omega (arith, less)) ∙ ap (λ (n : ℕ). (n + (2 ^ 32 - c)) % 2 ^ 32) (difference_by_residues 32 unsigned a b (omega (arith, small)))
    ∙ less_and_less a b c small less ∙ ap (λ (n : ℕ). (a + (2 ^ 32 - n)) % 2 ^ 32) (sym (sum_by_residues 32 unsigned b c))
    ∙ sym (difference_by_residues 32 unsigned a (sum_of 32 unsigned b c) (let few_there = fold_once_below C.Add unsigned b c small less in omega (arith, few_there)))
one_more r unsigned a b c few small less = fold_once_assoc (combiner_of r) unsigned a b c few small less

module _ (r : ReduceOp) (unsigned : Bool) (a : ℕ) (few : a < 2 ^ 32) where
  -- the operator on the old value and the fold of others
  abbrev joined : ℕ → ℕ
  joined total = outcome (reduce_op_of r) 32 unsigned a total

  joins : (b : Bool) (one whole w : ℕ) → (b ≡ true → w < 2 ^ 32) → (one ≡ joined whole) × (whole < 2 ^ 32)
      → ((if b then step_of (assignment_of r) unsigned one w else one) ≡ joined (if b then fold_once (combiner_of r) unsigned whole w else whole)) × ((if b then fold_once (combiner_of r) unsigned whole w else whole) < 2 ^ 32)
  joins true one whole w small so = (
    ap (λ (n : ℕ). step_of (assignment_of r) unsigned n w) so.0 ∙ step_is r unsigned (joined whole) w ∙ one_more r unsigned a whole w few so.1 (small refl),
    fold_once_below (combiner_of r) unsigned whole w so.1 (small refl),
  )
  joins false one whole w small so = so

  onto_joins : (active : ℕ → Bool) (value : ℕ → ℕ) (n : ℕ) → ((p : ℕ) → p < n → active p ≡ true → value p < 2 ^ 32)
      → (fold_below (λ total w. step_of (assignment_of r) unsigned total w) active value a n ≡ joined (folded (combiner_of r) unsigned active value n)) × (folded (combiner_of r) unsigned active value n < 2 ^ 32)
  unfolding fold_below folded
  onto_joins active value zero small = (sym (nothing_more r unsigned a few), identity_below (combiner_of r) unsigned)
  onto_joins active value (suc n) small =
      joins (active n) (fold_below (λ total w. step_of (assignment_of r) unsigned total w) active value a n) (folded (combiner_of r) unsigned active value n) (value n) (small n (omega arith)) (onto_joins active value n (λ p below. small p (omega (arith, below))))

-- So what is stored is the operator on the old value and the fold of the values, converted to the variable's type.
pub onto_is : (r : ReduceOp) (to from : Elem) (old : ℕ) (active : ℕ → Bool) (value : ℕ → ℕ) (n : ℕ) → from.bits ≡ 32 → ((p : ℕ) → p < n → active p ≡ true → value p < 2 ^ 32)
    → folded_into (assignment_of r) to from old active value n ≡ converted to from (outcome (reduce_op_of r) 32 (not from.signed) (held to old) (folded (combiner_of r) (not from.signed) active value n))
unfolding folded_into
onto_is r to from old active value n wide small =
    ap (λ (a : ℕ). converted to from (fold_below (λ total w. step_of (assignment_of r) (not from.signed) total w) active value a n)) (held_converted from to old wide)
    ∙ ap (λ (w : ℕ). converted to from w) (onto_joins r (not from.signed) (held to old) (held_below to old) active value n small).0
