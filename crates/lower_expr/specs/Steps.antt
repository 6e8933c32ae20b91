-- Short stretches of code over values that stand in registers and fields already.
use Rattle.std.specs.Prelude.{ℕ, Bool, true, false, not, ◌==◌, ◌&&◌, ◌-◌, nat_lt, if◌then◌else◌, List, [], ◌∷◌, Option, Some, None, is_none}
use Rattle.cstar_base.specs.declared.elem.Elem.{Elem}
use Rattle.cstar_base.specs.declared.operators.Op.{Op}
use Rattle.cstar_base.specs.declared.operators.Op.TheVariants as P
use Rattle.cstar_base.specs.declared.operators.Place.{Place}
use Rattle.cstar_base.specs.Numbers.{converted}
use Rattle.cstar_base.specs.Operators.{divides}
use Rattle.cstar_tree.specs.declared.typed.Piece.{Piece}
use Rattle.cstar_tree.specs.declared.typed.Piece.TheVariants as Pc
use Rattle.cstar_tree.specs.declared.typed.TExpr.{TExpr}
use Rattle.cstar_tree.specs.declared.typed.TExpr as T
use Rattle.cstar_tree.specs.declared.typed.UnaryOp.{UnaryOp}
use Rattle.cstar_tree.specs.declared.typed.UnaryOp.TheVariants as Un
use Rattle.cstar_tree.specs.Typed.{type_of}
use Rattle.paris_code.specs.declared.instr.Instr.TheVariants as I
use Rattle.paris_code.specs.declared.operands.Compare.TheVariants as C
use Rattle.paris_code.specs.declared.operands.Field.{Field}
use Rattle.paris_code.specs.declared.operands.Konst.{Konst}
use Rattle.paris_code.specs.declared.operands.Konst.TheVariants as K
use Rattle.paris_code.specs.declared.operands.Operation.{Operation}
use Rattle.paris_code.specs.declared.operands.Operation.TheVariants as Act
use Rattle.source_meaning.specs.Constants.{constant_of, then_value}
use Rattle.source_meaning.specs.Reductions.{int_type}
use Rattle.lower_base.specs.declared.emit.Out.{Out}
use Rattle.lower_base.specs.declared.emit.Out.TheVariants as O
use Rattle.lower_base.specs.declared.operators.Machine.{Machine}
use Rattle.lower_base.specs.declared.operators.Machine.TheVariants as M
use Rattle.lower_base.specs.Constants.{word_in}
use Rattle.lower_base.specs.Layouts.{Layout}
use Rattle.lower_base.specs.Drafts.{Draft, Made, Makes, Fails, then_make, with_instr, a_register, a_flag, in_register, in_field}
use Rattle.lower_base.specs.Operators.{is_signed, machine_of, negates, relates}
use Rattle.lower_expr.specs.declared.steps.Right.{Right}
use Rattle.lower_expr.specs.declared.steps.Right.TheVariants as R

-- does the value stand in a register: that of a scalar does, and that of a promoted one until it is spread
unfoldable pub is_kept : TExpr → Bool
is_kept (T.Promote' ty p operand) = true
is_kept (T.Convert' ty p operand) = is_kept operand
is_kept (T.Brackets' ty p inner) = is_kept inner
is_kept e = is_none (type_of e).shape

-- the word of a scalar constant, promoted to 32 bits, and that of a promoted one, which is the same
-- at every position
unfoldable pub register_word : TExpr → Option ℕ
register_word e = then_value (constant_of e) (λ v. Some (converted int_type (type_of e).elem v))

unfoldable pub word_of : TExpr → Option ℕ
word_of (T.Promote' ty p operand) = register_word operand
word_of (T.Brackets' ty p inner) = word_of inner
word_of _ = None

-- the word of a constant, promoted to 32 bits, that goes to a register, or to every position of a field
unfoldable pub word_for : Out → TExpr → Option ℕ
word_for (O.Scalar r) e = register_word e
word_for (O.Field f) e = word_of e
word_for O.Nothing e = None

unfoldable pub word_put : Out → ℕ → Draft → Made Out
word_put (O.Scalar r) word d = Makes (O.Scalar r) (with_instr (I.FrontConst r word) d)
word_put (O.Field f) word d = Makes (O.Field f) (with_instr (I.MoveConstant f (K.Imm word)) d)
word_put O.Nothing word d = Fails

unfoldable pub has_word : Bool → TExpr → Bool
has_word scalar e = not (is_none (if scalar then register_word e else word_of e))

-- does the test flag tell whether the value is not zero, without the value itself: that of a relation,
-- of a negation, and of a variable
unfoldable pub has_truth : TExpr → Bool
has_truth (T.Brackets' ty p inner) = has_truth inner
has_truth (T.Variable ty x) = true
has_truth (T.Binary' ty place op p left q right) = relates op
has_truth (T.Unary' ty op p operand) = negates op
has_truth _ = false

-- the word of a right operand that has no code of its own; a divisor of 0 is left to its check
unfoldable pub word_taken : Op → TExpr → Option ℕ
word_taken op e = then_value (word_of e) (λ w. if divides op && w == 0 then None else Some w)

-- a number in a fresh register
unfoldable pub constant_in : ℕ → Draft → Made Out
constant_in value d = then_make (a_register d) (λ r after. Makes (O.Scalar r) (with_instr (I.FrontConst r value) after))

-- the test flag as the value of a field, 0 or 1: of one bit at once, and else from a flag
unfoldable pub put_test : Field → Draft → Made Out
put_test dest d =
    if dest.len == 1 then Makes (O.Field dest) (with_instr (I.StoreTest dest) d)
    else then_make (a_flag dest.set d)
    (λ kept after. Makes (O.Field dest) (with_instr (I.Move false dest kept) (with_instr (I.StoreTest kept) after)))

-- A field of 32 bits converted in place: to `bool` by a test, to another narrow type by shifting
-- its bits to the top and back.
unfoldable pub shifted_back : Bool → Operation
shifted_back signed = if signed then Act.SShiftRight else Act.UShiftRight

unfoldable pub field_converted : Field → Elem → Draft → Made Out
field_converted f elem d =
    if elem.bits == 1 then put_test f (with_instr (I.NeZero f) d)
    else (if nat_lt elem.bits 32 then Makes (O.Field f)
    (with_instr (I.OperateConstant (shifted_back elem.signed) f f (K.Imm (32 - elem.bits)))
    (with_instr (I.OperateConstant Act.UShiftLeft f f (K.Imm (32 - elem.bits))) d))
    else Makes (O.Field f) d)

-- a value converted in place
unfoldable pub converted_in_place : Out → Elem → Draft → Made Out
converted_in_place (O.Scalar r) elem d =
    Makes (O.Scalar r) (if nat_lt elem.bits 32 then with_instr (I.FrontConvert r r elem) d else d)
converted_in_place (O.Field f) elem d = field_converted f elem d
converted_in_place O.Nothing elem d = Fails

-- a value copied to a field, or spread there from a register
unfoldable pub put_in_field : Field → Out → Draft → Made Out
put_in_field dest (O.Scalar r) d = Makes (O.Field dest) (with_instr (I.MoveConstant dest (K.Reg r)) d)
put_in_field dest (O.Field source) d = Makes (O.Field dest) (with_instr (I.Move true dest source) d)
put_in_field dest O.Nothing d = Fails

-- a value copied to a register or a field
unfoldable pub put_value : Out → Out → Draft → Made Out
put_value (O.Scalar dest) v d = in_register v (λ source. Makes (O.Scalar dest) (with_instr (I.FrontMove dest source) d))
put_value (O.Field dest) v d = put_in_field dest v d
put_value O.Nothing v d = Fails

-- the check of a divisor, where the operator has one
unfoldable pub with_register_check : Op → Place → ℕ → Draft → Draft
with_register_check op place right d = if divides op then with_instr (I.FrontCheckDivisor place right) d else d

unfoldable pub with_field_check : Op → Place → Field → Draft → Draft
with_field_check op place right d = if divides op then with_instr (I.CheckDivisor place right) d else d

-- an operation or a relation on registers
unfoldable pub on_registers : Machine → ℕ → ℕ → ℕ → Draft → Draft
on_registers (M.Operate act) dest left right d = with_instr (I.FrontOperate act dest left right) d
on_registers (M.Compare relation) dest left right d = with_instr (I.FrontCompare relation dest left right) d

-- a binary operator on registers; a divisor of 0 is a fault at the place
unfoldable pub operated : Op → Bool → Place → ℕ → ℕ → ℕ → Draft → Draft
operated op signed place dest left right d =
    on_registers (machine_of op signed) dest left right (with_register_check op place right d)

-- the same on fields
unfoldable pub on_fields : Machine → Field → Field → Field → Draft → Made Out
on_fields (M.Operate act) dest left right d = Makes (O.Field dest) (with_instr (I.Operate act dest left right) d)
on_fields (M.Compare relation) dest left right d = put_test dest (with_instr (I.Compare relation left right) d)

unfoldable pub fields_operated : Op → Bool → Place → Field → Field → Field → Draft → Made Out
fields_operated op signed place dest left right d =
    on_fields (machine_of op signed) dest left right (with_field_check op place right d)

-- does the operation take the word as it is: a divisor only where it is known not to be 0
unfoldable pub takes_word : Op → Konst → Bool
takes_word op (K.Imm value) = true
takes_word op (K.Reg r) = not (divides op)

-- an operation on a field and a word: where it does not take the word, that is spread first
unfoldable pub on_word : Machine → Op → Place → Field → Field → Konst → Field → Draft → Made Out
on_word (M.Operate act) op place dest left word spare d =
    if takes_word op word then Makes (O.Field dest) (with_instr (I.OperateConstant act dest left word) d)
    else on_fields (M.Operate act) dest left spare (with_field_check op place spare (with_instr (I.MoveConstant spare word) d))
on_word (M.Compare relation) op place dest left word spare d =
    on_fields (M.Compare relation) dest left spare (with_field_check op place spare (with_instr (I.MoveConstant spare word) d))

unfoldable pub right_operated : Op → Bool → Place → Field → Field → Right → Field → Draft → Made Out
right_operated op signed place dest left (R.Field right) spare d = fields_operated op signed place dest left right d
right_operated op signed place dest left (R.Word word) spare d =
    on_word (machine_of op signed) op place dest left word spare d

-- an operand as a field: a register is spread into the spare one
unfoldable pub in_a_field : Out → Field → Draft → Made Field
in_a_field (O.Field f) spare d = Makes f d
in_a_field (O.Scalar r) spare d = Makes spare (with_instr (I.MoveConstant spare (K.Reg r)) d)
in_a_field O.Nothing spare d = Fails

-- a unary operator other than `+` on a register, and on a field
unfoldable pub register_negated : Layout → UnaryOp → ℕ → ℕ → Draft → Made Out
register_negated l Un.Plus dest source d = Fails
register_negated l Un.Minus dest source d = Makes (O.Scalar dest) (with_instr (I.FrontNegate dest source) d)
register_negated l Un.Complement dest source d = Makes (O.Scalar dest) (with_instr (I.FrontLognot dest source) d)
register_negated l Un.Not dest source d =
    then_make (word_in l 0 d) (λ zero after. Makes (O.Scalar dest) (with_instr (I.FrontCompare C.UEq dest source zero) after))

unfoldable pub field_negated : UnaryOp → Field → Field → Draft → Made Out
field_negated Un.Plus dest source d = Fails
field_negated Un.Minus dest source d = Makes (O.Field dest) (with_instr (I.Negate dest source) d)
field_negated Un.Complement dest source d = Makes (O.Field dest) (with_instr (I.Lognot dest source) d)
field_negated Un.Not dest source d = put_test dest (with_instr (I.EqZero source) d)

unfoldable pub negated : Layout → UnaryOp → Out → Out → Draft → Made Out
negated l op (O.Scalar dest) v d = in_register v (λ source. register_negated l op dest source d)
negated l op (O.Field dest) v d = in_field v (λ source. field_negated op dest source d)
negated l op O.Nothing v d = Fails

-- the pieces of a text, each conversion with the next value
unfoldable pub pieces_printed : List Piece → List Out → Draft → Made Out
pieces_printed [] values d = Makes O.Nothing d
pieces_printed (Pc.Bytes bytes ∷ rest) values d = pieces_printed rest values (with_instr (I.FrontPutBytes bytes) d)
pieces_printed (Pc.Argument format ∷ rest) [] d = Fails
pieces_printed (Pc.Argument format ∷ rest) (v ∷ values) d =
    in_register v (λ source. pieces_printed rest values (with_instr (I.FrontPut format source) d))

-- how the operator of a compound assignment reads its operands: a shift as the target is, and every
-- other operator as the value is, which has the common type
unfoldable pub assigned_signed : Op → Elem → Elem → Bool
assigned_signed P.Shl target value = is_signed target
assigned_signed P.Shr target value = is_signed target
assigned_signed _ target value = is_signed value
