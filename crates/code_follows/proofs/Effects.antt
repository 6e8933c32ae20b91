-- What operators leave in scalar variables, in the source.
use Rattle.std.proofs.Common.{◌≡◌, ◌∙◌, ℕ, ◌==◌, ◌&&◌, Bool, true, false, not, Option, Some, None, refl, sym, ap, if◌then◌else◌, arith, ◌≤◌}
use Rattle.std.specs.Prelude.{nat_lt, ◌||◌}
use Rattle.std.proofs.lemmas.Bool.Decides.{nat_tests}
use Rattle.cstar_base.specs.declared.elem.Elem.{Elem}
use Rattle.cstar_base.specs.declared.operators.Op.{Op}
use Rattle.cstar_base.specs.Numbers.{converted}
use Rattle.cstar_base.specs.Operators.{divides, outcome}
use Rattle.cstar_tree.specs.declared.syntax.AssignOp.{AssignOp}
use Rattle.cstar_tree.specs.declared.syntax.AssignOp.TheVariants as A
use Rattle.cstar_base.proofs.NumberLaws.{kind_bits}
use Rattle.code_follows.proofs.Following.{held}
use Rattle.lower_base.specs.Operators.{assign_op_of, is_signed}
use Rattle.lower_expr.specs.Steps.{assigned_signed}
use Rattle.source_meaning.specs.Reductions.{divides_by_zero, int_type, promoted, step_of, updated, working_type}
use Rattle.code_follows.proofs.Operators.{wide_signed}
use Rattle.code_follows.proofs.Words.{held_converted}

-- ---- what the source does

some_op : {a b : Op} → Some a ≡ Some b → a ≡ b
some_op {a} {b} e = ap (λ (o : Option Op). elim o as (λ _. Op) [ None ↦ a | Some x ↦ x ]) e

-- the operator of an assignment, at which a step of it is its outcome
step_is : (op : AssignOp) (o : Op) (unsigned : Bool) (old w : ℕ) → assign_op_of op ≡ Some o → step_of op unsigned old w ≡ outcome o 32 unsigned old w
unfolding assign_op_of step_of
step_is A.Set o unsigned old w is = cc
step_is A.Add o unsigned old w is = ap (λ (q : Op). outcome q 32 unsigned old w) (some_op is)
step_is A.Sub o unsigned old w is = ap (λ (q : Op). outcome q 32 unsigned old w) (some_op is)
step_is A.Mul o unsigned old w is = ap (λ (q : Op). outcome q 32 unsigned old w) (some_op is)
step_is A.Div o unsigned old w is = ap (λ (q : Op). outcome q 32 unsigned old w) (some_op is)
step_is A.Rem o unsigned old w is = ap (λ (q : Op). outcome q 32 unsigned old w) (some_op is)
step_is A.Mod o unsigned old w is = ap (λ (q : Op). outcome q 32 unsigned old w) (some_op is)
step_is A.And o unsigned old w is = ap (λ (q : Op). outcome q 32 unsigned old w) (some_op is)
step_is A.Or o unsigned old w is = ap (λ (q : Op). outcome q 32 unsigned old w) (some_op is)
step_is A.Xor o unsigned old w is = ap (λ (q : Op). outcome q 32 unsigned old w) (some_op is)
step_is A.Shl o unsigned old w is = ap (λ (q : Op). outcome q 32 unsigned old w) (some_op is)
step_is A.Shr o unsigned old w is = ap (λ (q : Op). outcome q 32 unsigned old w) (some_op is)
step_is A.Min o unsigned old w is = ap (λ (q : Op). outcome q 32 unsigned old w) (some_op is)
step_is A.Max o unsigned old w is = ap (λ (q : Op). outcome q 32 unsigned old w) (some_op is)

pub divides_is : (op : AssignOp) (o : Op) (w : ℕ) → assign_op_of op ≡ Some o → divides_by_zero op w ≡ (divides o && (w == 0))
unfolding assign_op_of divides_by_zero divides
divides_is A.Set o w is = cc
divides_is A.Add o w is = ap (λ (q : Op). divides q && (w == 0)) (some_op is)
divides_is A.Sub o w is = ap (λ (q : Op). divides q && (w == 0)) (some_op is)
divides_is A.Mul o w is = ap (λ (q : Op). divides q && (w == 0)) (some_op is)
divides_is A.Div o w is = ap (λ (q : Op). divides q && (w == 0)) (some_op is)
divides_is A.Rem o w is = ap (λ (q : Op). divides q && (w == 0)) (some_op is)
divides_is A.Mod o w is = ap (λ (q : Op). divides q && (w == 0)) (some_op is)
divides_is A.And o w is = ap (λ (q : Op). divides q && (w == 0)) (some_op is)
divides_is A.Or o w is = ap (λ (q : Op). divides q && (w == 0)) (some_op is)
divides_is A.Xor o w is = ap (λ (q : Op). divides q && (w == 0)) (some_op is)
divides_is A.Shl o w is = ap (λ (q : Op). divides q && (w == 0)) (some_op is)
divides_is A.Shr o w is = ap (λ (q : Op). divides q && (w == 0)) (some_op is)
divides_is A.Min o w is = ap (λ (q : Op). divides q && (w == 0)) (some_op is)
divides_is A.Max o w is = ap (λ (q : Op). divides q && (w == 0)) (some_op is)

-- a promoted type has 32 bits, and reads its numbers as the code does
pub promoted_wide : (elem : Elem) → (promoted elem).bits ≡ 32
unfolding promoted
promoted_wide elem = by (nat_lt elem.bits 32) refl
  where
    by : (b : Bool) → nat_lt elem.bits 32 ≡ b → (if b then int_type else elem).bits ≡ 32
    by true is = refl
    by false is = let few : elem.bits ≤ 32 = (kind_bits elem.bits elem.signed elem.kind).1 in grind (arith, nat_tests, is, few)

promoted_signed : (elem : Elem) → (promoted elem).signed ≡ is_signed elem
unfolding promoted is_signed
promoted_signed elem = by (nat_lt elem.bits 32) elem.signed refl
  where
    by : (b c : Bool) → elem.signed ≡ c → (if b then int_type else elem).signed ≡ (c || b)
    by true true is = refl
    by true false is = refl
    by false true is = is
    by false false is = is

-- the type at which it works reads its operands as the code does
signs_are : (op : AssignOp) (o : Op) (to from : Elem) → from.bits ≡ 32 → assign_op_of op ≡ Some o → (working_type op to from).signed ≡ assigned_signed o to from
unfolding assign_op_of working_type assigned_signed
signs_are A.Set o to from also is = cc
signs_are A.Shl o to from also is = promoted_signed to ∙ ap (λ (q : Op). assigned_signed q to from) (some_op is)
signs_are A.Shr o to from also is = promoted_signed to ∙ ap (λ (q : Op). assigned_signed q to from) (some_op is)
signs_are A.Add o to from also is = sym (wide_signed from also) ∙ ap (λ (q : Op). assigned_signed q to from) (some_op is)
signs_are A.Sub o to from also is = sym (wide_signed from also) ∙ ap (λ (q : Op). assigned_signed q to from) (some_op is)
signs_are A.Mul o to from also is = sym (wide_signed from also) ∙ ap (λ (q : Op). assigned_signed q to from) (some_op is)
signs_are A.Div o to from also is = sym (wide_signed from also) ∙ ap (λ (q : Op). assigned_signed q to from) (some_op is)
signs_are A.Rem o to from also is = sym (wide_signed from also) ∙ ap (λ (q : Op). assigned_signed q to from) (some_op is)
signs_are A.Mod o to from also is = sym (wide_signed from also) ∙ ap (λ (q : Op). assigned_signed q to from) (some_op is)
signs_are A.And o to from also is = sym (wide_signed from also) ∙ ap (λ (q : Op). assigned_signed q to from) (some_op is)
signs_are A.Or o to from also is = sym (wide_signed from also) ∙ ap (λ (q : Op). assigned_signed q to from) (some_op is)
signs_are A.Xor o to from also is = sym (wide_signed from also) ∙ ap (λ (q : Op). assigned_signed q to from) (some_op is)
signs_are A.Min o to from also is = sym (wide_signed from also) ∙ ap (λ (q : Op). assigned_signed q to from) (some_op is)
signs_are A.Max o to from also is = sym (wide_signed from also) ∙ ap (λ (q : Op). assigned_signed q to from) (some_op is)

pub working_wide : (op : AssignOp) (to from : Elem) → from.bits ≡ 32 → (working_type op to from).bits ≡ 32
unfolding working_type
working_wide A.Shl to from also = promoted_wide to
working_wide A.Shr to from also = promoted_wide to
working_wide A.Set to from also = also
working_wide A.Add to from also = also
working_wide A.Sub to from also = also
working_wide A.Mul to from also = also
working_wide A.Div to from also = also
working_wide A.Rem to from also = also
working_wide A.Mod to from also = also
working_wide A.And to from also = also
working_wide A.Or to from also = also
working_wide A.Xor to from also = also
working_wide A.Min to from also = also
working_wide A.Max to from also = also

-- what an operator leaves in a variable
pub updated_is : (op : AssignOp) (o : Op) (to from : Elem) (old w : ℕ) → from.bits ≡ 32 → assign_op_of op ≡ Some o
    → updated op to from old w ≡ converted to (working_type op to from) (outcome o 32 (not (assigned_signed o to from)) (held to old) w)
unfolding updated assign_op_of
updated_is op o to from old w also is =
    let at_type : Elem = working_type op to from in
    let old_is : converted at_type to old ≡ held to old = held_converted at_type to old (working_wide op to from also) in
    let step : step_of op (not at_type.signed) (converted at_type to old) w ≡ outcome o 32 (not (assigned_signed o to from)) (held to old) w =
    ap (λ (q : ℕ). step_of op (not at_type.signed) q w) old_is ∙ step_is op o (not at_type.signed) (held to old) w is ∙ ap (λ (b : Bool). outcome o 32 (not b) (held to old) w) (signs_are op o to from also is) in
    updated_by op o to from old w is ∙ ap (λ (q : ℕ). converted to at_type q) step
  where
    updated_by : (op : AssignOp) (o : Op) (to from : Elem) (old w : ℕ) → assign_op_of op ≡ Some o → updated op to from old w ≡ converted to (working_type op to from) (step_of op (not (working_type op to from).signed) (converted (working_type op to from) to old) w)
    updated_by A.Set o to from old w is = cc
    updated_by A.Add o to from old w is = refl
    updated_by A.Sub o to from old w is = refl
    updated_by A.Mul o to from old w is = refl
    updated_by A.Div o to from old w is = refl
    updated_by A.Rem o to from old w is = refl
    updated_by A.Mod o to from old w is = refl
    updated_by A.And o to from old w is = refl
    updated_by A.Or o to from old w is = refl
    updated_by A.Xor o to from old w is = refl
    updated_by A.Shl o to from old w is = refl
    updated_by A.Shr o to from old w is = refl
    updated_by A.Min o to from old w is = refl
    updated_by A.Max o to from old w is = refl
