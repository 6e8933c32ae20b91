-- What a send with a combiner adds to its target's word, step by step.
use Rattle.std.proofs.Common.{◌≡◌, ℕ, ◌+◌, ◌-◌, ◌<◌, ◌^◌, ◌%◌, Bool, true, false, not, Some, ◌∙◌, sym, ap, subst, refl, arith}
use Rattle.std.specs.Prelude.{pos, neg_ℤ, unwrap_or}
use Rattle.std.proofs.lemmas.Int.{ints}
use Rattle.cstar_base.specs.declared.operators.Combiner.TheVariants as C
use Rattle.cstar_base.specs.declared.operators.Op.{Op}
use Rattle.cstar_base.specs.declared.operators.Op.TheVariants as O
use Rattle.cstar_base.specs.Folds.{fold_once}
use Rattle.cstar_base.specs.Numbers.{residue}
use Rattle.cstar_base.specs.Operators.{outcome, difference_of}
use Rattle.cstar_base.proofs.NumberLaws.{residue_is}
use Rattle.cstar_base.proofs.OperatorLaws.{difference_by_residues, sum_by_residues}
use Rattle.cstar_tree.specs.declared.syntax.AssignOp.{AssignOp}
use Rattle.cstar_tree.specs.declared.syntax.AssignOp.TheVariants as A
use Rattle.cstar_tree.specs.Operations.{folds}
use Rattle.lower_base.specs.Operators.{assign_op_of, fold_of}
use Rattle.paris_code.specs.Operators.{combiner_of}
use Rattle.source_meaning.specs.Reductions.{step_of}
use Rattle.communication_laws.specs.Sends.{sent_word}
use Rattle.communication_laws.proofs.Scans.{sum_alike}

negative_is : (w : ℕ) → w < 2 ^ 32 → residue 32 (neg_ℤ (pos w)) ≡ (2 ^ 32 - w) % 2 ^ 32
negative_is w few = residue_is 32 (neg_ℤ (pos w)) 1 (2 ^ 32 - w) (omega (arith, ints, few))

added_negative : (i w : ℕ) → w < 2 ^ 32 → (i + (2 ^ 32 - w) % 2 ^ 32) % 2 ^ 32 ≡ (i + (2 ^ 32 - w)) % 2 ^ 32
added_negative i w few = omega (arith, few)

-- a word less is its negative more
less_is : (unsigned : Bool) (i w : ℕ) → w < 2 ^ 32 → fold_once C.Add false i (residue 32 (neg_ℤ (pos w))) ≡ difference_of 32 unsigned i w
unfolding fold_once
less_is unsigned i w few =
    sum_by_residues 32 false i (residue 32 (neg_ℤ (pos w))) ∙ ap (λ n. (i + n) % 2 ^ 32) (negative_is w few) ∙ added_negative i w few
    ∙ sym (difference_by_residues 32 unsigned i w (omega (arith, few)))

-- the operator of an assignment that combines
abbrev operator_of : AssignOp → Op
operator_of op = unwrap_or (assign_op_of op) O.Add

combines : (op : AssignOp) (signed : Bool) (i w : ℕ) → folds op ≡ true → w < 2 ^ 32
    → fold_once (combiner_of (fold_of (operator_of op) signed)).0 (combiner_of (fold_of (operator_of op) signed)).1 i (sent_word (operator_of op) w) ≡ step_of op (not signed) i w
unfolding assign_op_of fold_of step_of fold_once outcome
combines A.Add signed i w is few = sum_alike false (not signed) i w
combines A.Sub signed i w is few = less_is (not signed) i w few
combines A.And signed i w is few = refl
combines A.Or signed i w is few = refl
combines A.Xor signed i w is few = refl
combines A.Min true i w is few = refl
combines A.Min false i w is few = refl
combines A.Max true i w is few = refl
combines A.Max false i w is few = refl
combines _ signed i w is few = cc

-- So the machine's combiner for an operator does with what is sent what the operator does with the value.
pub combines_as : (op : AssignOp) (operator : Op) (signed : Bool) (i w : ℕ) → assign_op_of op ≡ Some operator → folds op ≡ true → w < 2 ^ 32
    → fold_once (combiner_of (fold_of operator signed)).0 (combiner_of (fold_of operator signed)).1 i (sent_word operator w) ≡ step_of op (not signed) i w
combines_as op operator signed i w is combining few =
    subst (λ (o : Op). fold_once (combiner_of (fold_of o signed)).0 (combiner_of (fold_of o signed)).1 i (sent_word o w) ≡ step_of op (not signed) i w)
    (ap (λ o. unwrap_or o O.Add) is) (combines op signed i w combining few)
