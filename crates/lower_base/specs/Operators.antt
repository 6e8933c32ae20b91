-- Which operator of the machine does what an operator of the language means.
use Rattle.std.specs.Prelude.{Bool, true, false, ◌||◌, if◌then◌else◌, nat_lt, Option, Some, None}
use Rattle.cstar_base.specs.declared.elem.Elem.{Elem}
use Rattle.cstar_base.specs.declared.operators.Combiner.{Combiner}
use Rattle.cstar_base.specs.declared.operators.Combiner.TheVariants as C
use Rattle.cstar_base.specs.declared.operators.Op.{Op}
use Rattle.cstar_tree.specs.declared.syntax.AssignOp.{AssignOp}
use Rattle.cstar_tree.specs.declared.syntax.AssignOp.TheVariants as A
use Rattle.cstar_tree.specs.declared.syntax.ReduceOp.{ReduceOp}
use Rattle.cstar_tree.specs.declared.syntax.ReduceOp.TheVariants as R
use Rattle.cstar_tree.specs.declared.typed.UnaryOp.{UnaryOp}
use Rattle.cstar_tree.specs.declared.typed.UnaryOp.TheVariants as Un
use Rattle.paris_code.specs.declared.operands.Compare.TheVariants as K
use Rattle.paris_code.specs.declared.operands.Operation.{Operation}
use Rattle.paris_code.specs.declared.operands.Operation.TheVariants as N
use Rattle.paris_code.specs.declared.operands.Reduction.{Reduction}
use Rattle.paris_code.specs.declared.operands.Reduction.TheVariants as F
use Rattle.lower_base.specs.declared.operators.Machine.{Machine}
use Rattle.lower_base.specs.declared.operators.Machine.TheVariants as M

-- The operation of an operator that is no relation, for operands that are read signed or unsigned.
-- Sum, difference, product and shift to the left are the same for both, and modulo by an unsigned
-- divisor is the remainder.
unfoldable pub operation_of : Op → Bool → Operation
operation_of Op.Sub signed = N.SSubtract
operation_of Op.Mul signed = N.SMultiply
operation_of Op.Div signed = if signed then N.STruncate else N.UTruncate
operation_of Op.Rem signed = if signed then N.SRem else N.URem
operation_of Op.Mod signed = if signed then N.SMod else N.URem
operation_of Op.And signed = N.Logand
operation_of Op.Or signed = N.Logior
operation_of Op.Xor signed = N.Logxor
operation_of Op.Min signed = if signed then N.SMin else N.UMin
operation_of Op.Max signed = if signed then N.SMax else N.UMax
operation_of Op.Shl signed = N.UShiftLeft
operation_of Op.Shr signed = if signed then N.SShiftRight else N.UShiftRight
operation_of _ signed = N.SAdd

-- a relation is compared, and any other operator operates
unfoldable pub machine_of : Op → Bool → Machine
machine_of Op.Eq signed = M.Compare K.UEq
machine_of Op.Ne signed = M.Compare K.UNe
machine_of Op.Lt signed = M.Compare (if signed then K.SLt else K.ULt)
machine_of Op.Le signed = M.Compare (if signed then K.SLe else K.ULe)
machine_of Op.Gt signed = M.Compare (if signed then K.SGt else K.UGt)
machine_of Op.Ge signed = M.Compare (if signed then K.SGe else K.UGe)
machine_of op signed = M.Operate (operation_of op signed)

-- the operators whose value is whether a relation holds
unfoldable pub relates : Op → Bool
relates Op.Eq = true
relates Op.Ne = true
relates Op.Lt = true
relates Op.Le = true
relates Op.Gt = true
relates Op.Ge = true
relates _ = false

-- the operator whose value is whether its operand is zero
unfoldable pub negates : UnaryOp → Bool
negates Un.Not = true
negates _ = false

-- the operator of a compound assignment
unfoldable pub assign_op_of : AssignOp → Option Op
assign_op_of A.Set = None
assign_op_of A.Add = Some Op.Add
assign_op_of A.Sub = Some Op.Sub
assign_op_of A.Mul = Some Op.Mul
assign_op_of A.Div = Some Op.Div
assign_op_of A.Rem = Some Op.Rem
assign_op_of A.Mod = Some Op.Mod
assign_op_of A.And = Some Op.And
assign_op_of A.Or = Some Op.Or
assign_op_of A.Xor = Some Op.Xor
assign_op_of A.Shl = Some Op.Shl
assign_op_of A.Shr = Some Op.Shr
assign_op_of A.Min = Some Op.Min
assign_op_of A.Max = Some Op.Max

-- what folds the elements that an operator combines; a difference is folded as a sum
unfoldable pub fold_of : Op → Bool → Reduction
fold_of Op.And signed = F.Logand
fold_of Op.Or signed = F.Logior
fold_of Op.Xor signed = F.Logxor
fold_of Op.Min signed = if signed then F.SMin else F.UMin
fold_of Op.Max signed = if signed then F.SMax else F.UMax
fold_of _ signed = F.SAdd

-- the operator of a unary reduction
unfoldable pub reduce_op_of : ReduceOp → Op
reduce_op_of R.Add = Op.Add
reduce_op_of R.Sub = Op.Sub
reduce_op_of R.And = Op.And
reduce_op_of R.Xor = Op.Xor
reduce_op_of R.Or = Op.Or
reduce_op_of R.Min = Op.Min
reduce_op_of R.Max = Op.Max

-- what folds the steps of a scan
unfoldable pub scan_fold_of : Combiner → Bool → Reduction
scan_fold_of C.And signed = F.Logand
scan_fold_of C.Or signed = F.Logior
scan_fold_of C.Xor signed = F.Logxor
scan_fold_of C.Min signed = if signed then F.SMin else F.UMin
scan_fold_of C.Max signed = if signed then F.SMax else F.UMax
scan_fold_of _ signed = F.SAdd

-- is a value of the type, promoted to 32 bits, read in two's complement: a narrow one always is
unfoldable pub is_signed : Elem → Bool
is_signed elem = elem.signed || nat_lt elem.bits 32
