-- The operators of the language that the operations, relations and reductions of instructions are,
-- each with whether it reads its operands unsigned.
use Rattle.std.specs.Prelude.{Bool, true, false}
use Rattle.cstar_base.specs.declared.operators.Op.{Op}
use Rattle.cstar_base.specs.declared.operators.Op.TheVariants as O
use Rattle.cstar_base.specs.declared.operators.Combiner.{Combiner}
use Rattle.cstar_base.specs.declared.operators.Combiner.TheVariants as C
use Rattle.paris_code.specs.declared.operands.Operation.{Operation}
use Rattle.paris_code.specs.declared.operands.Operation.TheVariants as P
use Rattle.paris_code.specs.declared.operands.Compare.{Compare}
use Rattle.paris_code.specs.declared.operands.Compare.TheVariants as R
use Rattle.paris_code.specs.declared.operands.Reduction.{Reduction}
use Rattle.paris_code.specs.declared.operands.Reduction.TheVariants as F

abbrev pub operator_of : Operation → Op × Bool
operator_of P.SAdd = (O.Add, false)
operator_of P.SSubtract = (O.Sub, false)
operator_of P.SMultiply = (O.Mul, false)
operator_of P.STruncate = (O.Div, false)
operator_of P.UTruncate = (O.Div, true)
operator_of P.SRem = (O.Rem, false)
operator_of P.URem = (O.Rem, true)
operator_of P.SMod = (O.Mod, false)
operator_of P.SMin = (O.Min, false)
operator_of P.UMin = (O.Min, true)
operator_of P.SMax = (O.Max, false)
operator_of P.UMax = (O.Max, true)
operator_of P.Logand = (O.And, true)
operator_of P.Logior = (O.Or, true)
operator_of P.Logxor = (O.Xor, true)
operator_of P.UShiftLeft = (O.Shl, true)
operator_of P.SShiftRight = (O.Shr, false)
operator_of P.UShiftRight = (O.Shr, true)

abbrev pub comparison_of : Compare → Op × Bool
comparison_of R.UEq = (O.Eq, true)
comparison_of R.UNe = (O.Ne, true)
comparison_of R.SLt = (O.Lt, false)
comparison_of R.SLe = (O.Le, false)
comparison_of R.SGt = (O.Gt, false)
comparison_of R.SGe = (O.Ge, false)
comparison_of R.ULt = (O.Lt, true)
comparison_of R.ULe = (O.Le, true)
comparison_of R.UGt = (O.Gt, true)
comparison_of R.UGe = (O.Ge, true)

abbrev pub combiner_of : Reduction → Combiner × Bool
combiner_of F.SAdd = (C.Add, false)
combiner_of F.Logand = (C.And, true)
combiner_of F.Logior = (C.Or, true)
combiner_of F.Logxor = (C.Xor, true)
combiner_of F.SMin = (C.Min, false)
combiner_of F.UMin = (C.Min, true)
combiner_of F.SMax = (C.Max, false)
combiner_of F.UMax = (C.Max, true)
