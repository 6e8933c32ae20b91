-- The marks of the operators, and how strongly they bind.
use Rattle.std.specs.Prelude.{ℕ, Option, Some}
use Rattle.cstar_base.specs.declared.operators.Op.{Op}
use Rattle.cstar_base.specs.declared.operators.Op.TheVariants as O
use Rattle.cstar_tree.specs.declared.token.Kind.{Kind}
use Rattle.cstar_tree.specs.declared.token.Kind.TheVariants as K
use Rattle.cstar_tree.specs.declared.token.Mark.{Mark}
use Rattle.cstar_tree.specs.declared.token.Mark.TheVariants as M
use Rattle.cstar_tree.specs.declared.syntax.AssignOp.{AssignOp}
use Rattle.cstar_tree.specs.declared.syntax.AssignOp.TheVariants as A
use Rattle.cstar_tree.specs.declared.syntax.BinaryOp.{BinaryOp}
use Rattle.cstar_tree.specs.declared.syntax.BinaryOp.TheVariants as B
use Rattle.cstar_tree.specs.declared.syntax.PrefixOp.{PrefixOp}
use Rattle.cstar_tree.specs.declared.syntax.PrefixOp.TheVariants as P
use Rattle.cstar_tree.specs.declared.syntax.StepOp.{StepOp}
use Rattle.cstar_tree.specs.declared.syntax.StepOp.TheVariants as S
use Rattle.cstar_tree.specs.declared.syntax.ReduceOp.{ReduceOp}
use Rattle.cstar_tree.specs.declared.syntax.ReduceOp.TheVariants as R

abbrev pub assign_mark : AssignOp → Mark
assign_mark A.Set = M.Equal
assign_mark A.Add = M.PlusEqual
assign_mark A.Sub = M.MinusEqual
assign_mark A.Mul = M.StarEqual
assign_mark A.Div = M.SlashEqual
assign_mark A.Rem = M.PercentEqual
assign_mark A.Mod = M.PercentPercentEqual
assign_mark A.And = M.AmpersandEqual
assign_mark A.Or = M.PipeEqual
assign_mark A.Xor = M.CaretEqual
assign_mark A.Shl = M.ShiftLeftEqual
assign_mark A.Shr = M.ShiftRightEqual
assign_mark A.Min = M.LessQuestionEqual
assign_mark A.Max = M.GreaterQuestionEqual

abbrev pub number_mark : Op → Mark
number_mark O.Add = M.Plus
number_mark O.Sub = M.Minus
number_mark O.Mul = M.Star
number_mark O.Div = M.Slash
number_mark O.Rem = M.Percent
number_mark O.Mod = M.PercentPercent
number_mark O.And = M.Ampersand
number_mark O.Or = M.Pipe
number_mark O.Xor = M.Caret
number_mark O.Min = M.LessQuestion
number_mark O.Max = M.GreaterQuestion
number_mark O.Shl = M.ShiftLeft
number_mark O.Shr = M.ShiftRight
number_mark O.Eq = M.EqualEqual
number_mark O.Ne = M.NotEqual
number_mark O.Lt = M.Less
number_mark O.Le = M.LessEqual
number_mark O.Gt = M.Greater
number_mark O.Ge = M.GreaterEqual

abbrev pub binary_mark : BinaryOp → Mark
binary_mark B.LogicalOr = M.OrOr
binary_mark B.LogicalAnd = M.AndAnd
binary_mark (B.Number op) = number_mark op

abbrev pub step_mark : StepOp → Mark
step_mark S.Increment = M.PlusPlus
step_mark S.Decrement = M.MinusMinus

abbrev pub reduce_mark : ReduceOp → Mark
reduce_mark R.Add = M.PlusEqual
reduce_mark R.Sub = M.MinusEqual
reduce_mark R.And = M.AmpersandEqual
reduce_mark R.Xor = M.CaretEqual
reduce_mark R.Or = M.PipeEqual
reduce_mark R.Min = M.LessQuestionEqual
reduce_mark R.Max = M.GreaterQuestionEqual

abbrev pub prefix_mark : PrefixOp → Mark
prefix_mark P.Plus = M.Plus
prefix_mark P.Minus = M.Minus
prefix_mark P.Complement = M.Tilde
prefix_mark P.Not = M.Exclamation
prefix_mark (P.Step op) = step_mark op
prefix_mark (P.Reduce op) = reduce_mark op

-- the level of the binary operator that a mark is, from `||` with 2 to `* / % %%` with 12, or 0
abbrev pub mark_level : Mark → ℕ
mark_level M.OrOr = 2
mark_level M.AndAnd = 3
mark_level M.Pipe = 4
mark_level M.Caret = 5
mark_level M.Ampersand = 6
mark_level M.EqualEqual = 7
mark_level M.NotEqual = 7
mark_level M.Less = 8
mark_level M.Greater = 8
mark_level M.LessEqual = 8
mark_level M.GreaterEqual = 8
mark_level M.LessQuestion = 9
mark_level M.GreaterQuestion = 9
mark_level M.ShiftLeft = 10
mark_level M.ShiftRight = 10
mark_level M.Plus = 11
mark_level M.Minus = 11
mark_level M.Star = 12
mark_level M.Slash = 12
mark_level M.Percent = 12
mark_level M.PercentPercent = 12
mark_level _ = 0

abbrev pub binary_level : BinaryOp → ℕ
binary_level op = mark_level (binary_mark op)

-- the same of what stands at a position
abbrev pub operator_level : Option Kind → ℕ
operator_level (Some (K.Mark mark)) = mark_level mark
operator_level _ = 0
