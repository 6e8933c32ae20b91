-- At how many bits a parallel value is computed. Of each so many bits are wanted: its field has so many,
-- the lowest of the value. An operator works at fewer bits than 32 where the lowest bits of its result
-- depend on the lowest bits of its operands alone, and a relation compares in a narrow type that has the
-- numbers of both sides.
use Rattle.std.specs.Prelude.{ℕ, Bool, true, false, not, ◌==◌, ◌&&◌, ◌||◌, nat_lt, nat_le, if◌then◌else◌, Option, Some, None}
use Rattle.cstar_base.specs.declared.elem.Elem.{Elem}
use Rattle.cstar_base.specs.declared.operators.Op.{Op}
use Rattle.cstar_base.specs.declared.operators.Op.TheVariants as P
use Rattle.cstar_base.specs.Numbers.{converted}
use Rattle.cstar_tree.specs.declared.syntax.AssignOp.{AssignOp}
use Rattle.cstar_tree.specs.declared.syntax.ReduceOp.{ReduceOp}
use Rattle.cstar_tree.specs.declared.typed.TExpr.{TExpr}
use Rattle.cstar_tree.specs.declared.typed.UnaryOp.{UnaryOp}
use Rattle.cstar_tree.specs.declared.typed.UnaryOp.TheVariants as Un
use Rattle.cstar_tree.specs.declared.typed.ValueType.{ValueType}
use Rattle.cstar_tree.specs.Typed.{type_of}
use Rattle.source_meaning.specs.Reductions.{int_type}
use Rattle.lower_base.specs.Kinds.{bits_of, common_kind, fold_bits, is_bitwise, kind_of}
use Rattle.lower_base.specs.Operators.{assign_op_of, is_signed, negates, reduce_op_of, relates}
use Rattle.lower_expr.specs.Steps.{is_kept, word_of}

-- does a type have the number of a promoted constant
unfoldable pub has_number : Elem → ℕ → Bool
has_number kind word = converted int_type kind (converted kind int_type word) == word

unfoldable pub kind_with : Option Elem → ℕ → Option Elem
kind_with None word = None
kind_with (Some kind) word = if has_number kind word then Some kind else None

-- the narrow type in which the two sides of a relation are compared, if there is one
unfoldable pub relation_kind : TExpr → TExpr → Option Elem
relation_kind left right =
    elim (word_of right) [
      | Some word ↦ kind_with (kind_of left) word
      | None ↦ elim (word_of left) [ Some word ↦ kind_with (kind_of right) word | None ↦ common_kind (kind_of left) (kind_of right) ]
    ]

-- do the lowest bits of the result depend on the lowest bits of the operands alone
unfoldable pub is_modular : Op → Bool
is_modular P.Add = true
is_modular P.Sub = true
is_modular P.Mul = true
is_modular op = is_bitwise op

-- is the operator a shift to the left by a constant below the number of bits
unfoldable pub shifts_within : ℕ → Op → TExpr → Bool
shifts_within bits P.Shl right = elim (word_of right) [ Some word ↦ nat_lt word bits | None ↦ false ]
shifts_within bits _ right = false

-- at how many bits an operator works of whose result so many are wanted
unfoldable pub operation_bits : ℕ → Op → TExpr → ℕ
operation_bits bits op right = if is_modular op || shifts_within bits op right then bits else 32

-- how many bits the result of a binary operator has, and its operands
unfoldable pub result_bits : ℕ → Op → TExpr → ℕ
result_bits bits op right = if relates op then bits else operation_bits bits op right

unfoldable pub operand_bits : ℕ → Op → TExpr → TExpr → ℕ
operand_bits bits op left right = if relates op then bits_of (relation_kind left right) else operation_bits bits op right

-- does a parallel operator read its operands signed: a relation as the type in which it compares
unfoldable pub reads_signed : Op → TExpr → TExpr → Bool
reads_signed op left right =
    if relates op then elim (relation_kind left right) [ None ↦ is_signed (type_of left).elem | Some kind ↦ kind.signed ]
    else is_signed (type_of left).elem

-- how many bits of its operand a unary operator needs
unfoldable pub unary_bits : ℕ → UnaryOp → TExpr → ℕ
unary_bits bits op operand = if negates op then bits_of (kind_of operand) else bits

-- The unary operator that is done: `!` of a parallel value that has one bit, where one bit is wanted, is
-- done as its complement.
unfoldable pub done_as : ℕ → UnaryOp → TExpr → UnaryOp
done_as bits op operand =
    if negates op && (bits == 1 && (not (is_kept operand) && bits_of (kind_of operand) == 1)) then Un.Complement else op

-- Is what is wanted of a converted value that of the value itself? One that is kept in a register is
-- converted there, unless it keeps all its bits.
unfoldable pub is_unchanged : ℕ → Elem → Bool → Bool
is_unchanged bits elem kept = if kept then elem.bits == 32 else nat_le bits elem.bits && not (elem.bits == 1)

-- how many bits the operand of a unary reduction has
abbrev pub reduced_bits : ReduceOp → TExpr → ℕ
reduced_bits op operand = fold_bits (reduce_op_of op) operand

-- how many bits an operator takes of the value that it assigns: all, but for a parallel value that is
-- folded onto a scalar
unfoldable pub operator_bits : Op → Option ℕ → TExpr → ℕ
operator_bits op (Some set) value = 32
operator_bits op None value = if is_kept value then 32 else fold_bits op value

-- how many bits a value has that is assigned: those of the target, and what is wanted of the assignment,
-- but as many as an operator or a combiner takes
unfoldable pub longer : ℕ → ℕ → ℕ
longer bits other = if nat_lt bits other then other else bits

unfoldable pub assigned_bits : ℕ → AssignOp → Bool → ValueType → TExpr → ℕ
assigned_bits bits op sends ty value = elim (assign_op_of op) [
  | None ↦ if sends then ty.elem.bits else longer bits ty.elem.bits
  | Some o ↦ operator_bits o ty.shape value
]

-- Does an operator on a variable of a type need no more bits than that has? That of `bool` is one of
-- truth values.
unfoldable pub works_within : Elem → Op → TExpr → Bool
works_within elem op value =
    if elem.bits == 1 then is_bitwise op && bits_of (kind_of value) == 1 else operation_bits elem.bits op value == elem.bits

-- how many bits the members of a list have: as many as their own types, or 32
unfoldable pub list_bits : Bool → TExpr → ℕ
list_bits own e = if own then (type_of e).elem.bits else 32
