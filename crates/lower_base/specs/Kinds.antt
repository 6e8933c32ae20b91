-- Of which narrow type the value of an expression is, where one is known, and at how many bits values of
-- it are folded.
use Rattle.std.specs.Prelude.{ℕ, Bool, true, false, ◌+◌, ◌==◌, ◌&&◌, nat_lt, nat_le, if◌then◌else◌, refl, Option, Some, None, is_none}
use Rattle.cstar_base.specs.declared.elem.Elem.{Elem}
use Rattle.cstar_base.specs.declared.operators.Op.{Op}
use Rattle.cstar_base.specs.declared.operators.Op.TheVariants as P
use Rattle.cstar_tree.specs.declared.typed.TExpr.{TExpr}
use Rattle.cstar_tree.specs.declared.typed.TExpr as T
use Rattle.cstar_tree.specs.Typed.{type_of}
use Rattle.paris_code.specs.declared.operands.Reduction.{Reduction}
use Rattle.paris_code.specs.declared.operands.Reduction.TheVariants as F
use Rattle.paris_code.specs.Operators.{combiner_of}
use Rattle.lower_base.specs.Operators.{fold_of, is_signed, negates, relates}

-- has a type all numbers of another one
unfoldable pub has_all : Elem → Elem → Bool
has_all elem other =
    if other.signed then elem.signed && nat_le other.bits elem.bits
    else (if elem.signed then nat_lt other.bits elem.bits else nat_le other.bits elem.bits)

-- a type of fewer than 32 bits
unfoldable pub narrow : Elem → Option Elem
narrow elem = if elem.bits == 32 then None else Some elem

-- the narrow type that has the numbers of two
unfoldable pub common_kind : Option Elem → Option Elem → Option Elem
common_kind (Some a) (Some b) = if has_all a b then Some a else if has_all b a then Some b else None
common_kind _ _ = None

-- the narrow type of what is converted to a type, by that of the value
unfoldable pub converted_kind : Elem → Option Elem → Option Elem
converted_kind elem (Some kind) = if has_all elem kind then Some kind else narrow elem
converted_kind elem None = narrow elem

-- the type of truth values
abbrev pub truth_type : Elem
truth_type = record { bits = 1; signed = false; kind = refl }

unfoldable pub is_bitwise : Op → Bool
is_bitwise P.And = true
is_bitwise P.Or = true
is_bitwise P.Xor = true
is_bitwise _ = false

unfoldable pub binary_kind : Op → Option Elem → Option Elem → Option Elem
binary_kind op left right =
    if relates op then Some truth_type else if is_bitwise op then common_kind left right else None

-- the narrow type that has the value of an expression, if one is known
unfoldable pub kind_of : TExpr → Option Elem
kind_of (T.Brackets' ty p inner) = kind_of inner
kind_of (T.Promote' ty p operand) = kind_of operand
kind_of (T.Convert' ty p operand) = converted_kind ty.elem (kind_of operand)
kind_of (T.ParallelCast' ty p operand) = converted_kind ty.elem (kind_of operand)
kind_of (T.Choice' ty p test q first r second) = common_kind (kind_of first) (kind_of second)
kind_of (T.LogicalOr' ty p left q right) = Some truth_type
kind_of (T.LogicalAnd' ty p left q right) = Some truth_type
kind_of (T.Binary' ty place op p left q right) = binary_kind op (kind_of left) (kind_of right)
kind_of (T.Unary' ty op p operand) = if negates op then Some truth_type else None
kind_of (T.Variable ty x) = narrow ty.elem
kind_of (T.Element' ty place array p index) = narrow ty.elem
kind_of (T.LeftIndex' ty place p indexes x of) = narrow ty.elem
kind_of _ = None

-- the bits of a narrow type, or 32
unfoldable pub bits_of : Option Elem → ℕ
bits_of None = 32
bits_of (Some kind) = kind.bits

-- does a combiner take each bit by itself
unfoldable pub joins_bits : Reduction → Bool
joins_bits F.Logand = true
joins_bits F.Logior = true
joins_bits F.Logxor = true
joins_bits _ = false

-- At how many bits the values of a narrow type are folded, so that each is read as its word. Where numbers
-- are read with a sign, one of an unsigned type has a bit more, which is 0; where they are read without,
-- one of a type with a sign has all 32.
unfoldable pub folded_bits : Reduction → Option Elem → ℕ
folded_bits combiner None = 32
folded_bits combiner (Some kind) =
    if joins_bits combiner then kind.bits
    else if (combiner_of combiner).1 then (if kind.signed then 32 else kind.bits)
    else (if kind.signed then kind.bits else kind.bits + 1)

-- the type to which the fold is then converted: bits of a type with a sign are joined without it
unfoldable pub folded_kind : Reduction → Option Elem → Option Elem
folded_kind combiner None = None
folded_kind combiner (Some kind) = if joins_bits combiner && kind.signed then Some kind else None

-- what folds the values of an expression by an operator, at how many bits, and to which type the fold is
-- converted
abbrev pub fold_by : Op → TExpr → Reduction
fold_by op e = fold_of op (is_signed (type_of e).elem)

abbrev pub fold_bits : Op → TExpr → ℕ
fold_bits op e = folded_bits (fold_by op e) (kind_of e)

abbrev pub fold_kind : Op → TExpr → Option Elem
fold_kind op e = folded_kind (fold_by op e) (kind_of e)

-- how many instructions the fold has
unfoldable pub fold_length : Op → TExpr → ℕ
fold_length op e = if is_none (fold_kind op e) then 1 else 2
