-- The type of a value that is given to a variable.
use Rattle.std.proofs.Common.{◌≡◌, Some, None}
use Rattle.cstar_base.specs.declared.operators.Op.{Op}
use Rattle.cstar_tree.specs.declared.syntax.AssignOp.{AssignOp}
use Rattle.cstar_tree.specs.declared.syntax.AssignOp.TheVariants as A
use Rattle.cstar_tree.specs.declared.typed.ValueType.{ValueType}
use Rattle.lower_base.specs.Operators.{assign_op_of}
use Rattle.code_follows.specs.Fragment.{IsGiven, IsWord, Takes}

pub given_set : (op : AssignOp) (to from : ValueType) → assign_op_of op ≡ None → IsGiven op to from → Takes to.elem from.elem
unfolding assign_op_of IsGiven
given_set A.Set to from is h = h
given_set A.Add to from is h = cc
given_set A.Sub to from is h = cc
given_set A.Mul to from is h = cc
given_set A.Div to from is h = cc
given_set A.Rem to from is h = cc
given_set A.Mod to from is h = cc
given_set A.And to from is h = cc
given_set A.Or to from is h = cc
given_set A.Xor to from is h = cc
given_set A.Shl to from is h = cc
given_set A.Shr to from is h = cc
given_set A.Min to from is h = cc
given_set A.Max to from is h = cc

pub given_word : (op : AssignOp) (o : Op) (to from : ValueType) → assign_op_of op ≡ Some o → IsGiven op to from → IsWord from
unfolding assign_op_of IsGiven
given_word A.Set o to from is h = cc
given_word A.Add o to from is h = h
given_word A.Sub o to from is h = h
given_word A.Mul o to from is h = h
given_word A.Div o to from is h = h
given_word A.Rem o to from is h = h
given_word A.Mod o to from is h = h
given_word A.And o to from is h = h
given_word A.Or o to from is h = h
given_word A.Xor o to from is h = h
given_word A.Shl o to from is h = h
given_word A.Shr o to from is h = h
given_word A.Min o to from is h = h
given_word A.Max o to from is h = h
