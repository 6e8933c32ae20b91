-- The code of an expression whose value goes to a variable, decides where a context is narrowed, or
-- is not used. The last instruction of a value writes the variable itself.
use Rattle.std.specs.Prelude.{ℕ, ◌+◌, Bool, true, false, ◌==◌, ◌&&◌, ◌||◌, not, nat_le, if◌then◌else◌, Option, Some, None, is_none}
use Rattle.cstar_base.specs.declared.elem.Elem.{Elem}
use Rattle.cstar_base.specs.declared.operators.Op.{Op}
use Rattle.cstar_base.specs.declared.operators.Place.{Place}
use Rattle.cstar_tree.specs.declared.syntax.AssignOp.{AssignOp}
use Rattle.cstar_tree.specs.declared.syntax.StepOp.{StepOp}
use Rattle.cstar_tree.specs.declared.typed.TExpr.{TExpr}
use Rattle.cstar_tree.specs.declared.typed.TExpr as T
use Rattle.cstar_tree.specs.declared.typed.Typed.{Typed}
use Rattle.cstar_tree.specs.Typed.{type_of}
use Rattle.paris_code.specs.declared.instr.Instr.TheVariants as I
use Rattle.paris_code.specs.declared.operands.Field.{Field}
use Rattle.paris_code.specs.declared.operands.Konst.TheVariants as K
use Rattle.lower_base.specs.declared.emit.Out.{Out}
use Rattle.lower_base.specs.declared.emit.Out.TheVariants as O
use Rattle.lower_base.specs.Drafts.{Draft, Made, Makes, Fails, then_make, with_instr, a_register, a_field, in_register, in_field}
use Rattle.lower_base.specs.Constants.{word_in, word_length}
use Rattle.lower_base.specs.Layouts.{Layout}
use Rattle.lower_base.specs.Operators.{assign_op_of, relates}
use Rattle.lower_expr.specs.declared.operands.Own.{Own}
use Rattle.lower_expr.specs.Joined.{is_flag, joins}
use Rattle.lower_expr.specs.Kinds.{done_as, operand_bits, operation_bits, reduced_bits, unary_bits, works_within}
use Rattle.lower_expr.specs.Lengths.{joined_length_of, length_of, operate_length, right_length, test_put_length, tested_length, used_length_of}
use Rattle.lower_expr.specs.Operands.{are_quiet, is_plus, own_of, standing}
use Rattle.lower_expr.specs.Steps.{is_kept, has_word, word_for, word_put, put_value, operated, right_operated, negated, assigned_signed}
use Rattle.lower_expr.specs.Values.{Code, value_of, values_of, spot_of, next_of, tested, truth_put, extended, right_by, step_operation, register_binary_of, field_binary_of, joined_of, scalar_choice_of, read_to, index_read_to, message_to, call_to}

-- how many bits of a value go to a register or a field
unfoldable pub bits_for : Out → ℕ
bits_for (O.Field f) = f.len
bits_for _ = 32

-- are so many bits of a converted value those of the value itself: one of one bit is a truth value already
unfoldable pub keeps_bits : ℕ → Elem → TExpr → Bool
keeps_bits bits elem operand = nat_le bits elem.bits && (not (elem.bits == 1) || is_flag operand)

-- a value moved to a register or a field, and one converted into a register
unfoldable pub moved : Typed → Layout → Out → TExpr → Draft → Made Out
moved t l dest e d = then_make (next_of t l (bits_for dest) true e d) (λ v after. put_value dest v after)

unfoldable pub register_converted : Typed → Layout → ℕ → Elem → TExpr → Draft → Made Out
register_converted t l r elem e d =
    then_make (next_of t l 32 true e d) (λ v after. in_register v (λ source.
    Makes (O.Scalar r) (with_instr (I.FrontConvert r source elem) after)))

-- is what goes there of a converted value that of the value itself
unfoldable pub goes_unchanged : Out → Elem → TExpr → Bool
goes_unchanged (O.Field f) elem operand = keeps_bits f.len elem operand
goes_unchanged _ elem operand = elem.bits == 32

-- another value `e`, which is the operand converted to a type: to a field by its test, or extended from
-- its bits of the type
unfoldable pub cast_to : Typed → Layout → Field → TExpr → Elem → TExpr → Draft → Made Out
cast_to t l f e elem operand d =
    if is_kept operand then moved t l (O.Field f) e d
    else if elem.bits == 1 then truth_put f (tested t l operand) d
    else extended elem.signed f (next_of t l elem.bits true operand) d

unfoldable pub converted_to : Typed → Layout → Out → TExpr → Elem → TExpr → Draft → Made Out
converted_to t l (O.Scalar r) e elem operand d = register_converted t l r elem operand d
converted_to t l (O.Field f) e elem operand d = cast_to t l f e elem operand d
converted_to t l O.Nothing e elem operand d = Fails

-- does a binary operator work at as many bits as the field has to which it goes
unfoldable pub fits_field : ℕ → Op → TExpr → Bool
fits_field bits op right = relates op || operation_bits bits op right == bits

-- a binary operator into a register or a field; what has to be spread goes to a fresh field
unfoldable pub field_binary_to : Typed → Layout → Field → TExpr → Op → Place → TExpr → TExpr → Draft → Made Out
field_binary_to t l f e op place left right d =
    if fits_field f.len op right then then_make (a_field f.set (operand_bits f.len op left right) d)
    (λ spare after. field_binary_of t l f.len op place left right f spare after)
    else moved t l (O.Field f) e d

unfoldable pub binary_to : Typed → Layout → Out → TExpr → Op → Place → TExpr → TExpr → Draft → Made Out
binary_to t l (O.Scalar r) e op place left right d = register_binary_of t l 32 op place left right r d
binary_to t l (O.Field f) e op place left right d = field_binary_to t l f e op place left right d
binary_to t l O.Nothing e op place left right d = Fails

-- `&&` or `||`, the expression `e`: to a field by its operation, where it is one of two fields of one bit
unfoldable pub logical_to : Typed → Layout → Out → TExpr → Bool → TExpr → TExpr → Draft → Made Out
logical_to t l (O.Field f) e is_or left right d =
    if joins left right then joined_of t l is_or f left right d else moved t l (O.Field f) e d
logical_to t l dest e is_or left right d = moved t l dest e d

-- what was put there is there
unfoldable pub gone_to : Out → Made Out → Made Out
gone_to dest made = then_make made (λ _ after. Makes dest after)

-- a value that is no constant becomes that of a register or a field
unfoldable pub computed_to : Typed → Layout → Out → TExpr → Draft → Made Out
computed_to t l dest (T.Brackets' ty p inner) d = computed_to t l dest inner d
computed_to t l dest (T.Convert' ty p operand) d =
    if goes_unchanged dest ty.elem operand then computed_to t l dest operand d
    else converted_to t l dest (T.Convert' ty p operand) ty.elem operand d
computed_to t l dest (T.Unary' ty op p operand) d =
    if is_plus op then computed_to t l dest operand d
    else then_make (next_of t l (unary_bits (bits_for dest) op operand) true operand d) (λ v after. negated l (done_as (bits_for dest) op operand) dest v after)
computed_to t l dest (T.Binary' ty place op p left q right) d = binary_to t l dest (T.Binary' ty place op p left q right) op place left right d
computed_to t l dest (T.LogicalOr' ty p left q right) d = logical_to t l dest (T.LogicalOr' ty p left q right) true left right d
computed_to t l dest (T.LogicalAnd' ty p left q right) d = logical_to t l dest (T.LogicalAnd' ty p left q right) false left right d
computed_to t l dest (T.Pcoord ty axis) d = in_field dest (λ f. Makes dest (with_instr (I.MyNewsCoordinate f axis) d))
computed_to t l dest (T.Variable ty x) d = read_to t l (T.Variable ty x) (spot_of t l (T.Variable ty x)) dest d
computed_to t l dest (T.GetChar ty) d = in_register dest (λ r. Makes dest (with_instr (I.FrontGetByte r) d))
computed_to t l dest (T.Choice' ty p test q first r second) d =
    if is_kept test then scalar_choice_of t l ty (bits_for dest) test first second dest d else moved t l dest (T.Choice' ty p test q first r second) d
computed_to t l dest (T.Element' ty place array p index) d = read_to t l (T.Element' ty place array p index) (spot_of t l (T.Element' ty place array p index)) dest d
computed_to t l dest (T.LeftIndex' ty place p indexes x of) d =
    gone_to dest (index_read_to t l (T.LeftIndex' ty place p indexes x of) (spot_of t l (T.LeftIndex' ty place p indexes x of)) dest d)
computed_to t l dest (T.Reduce' ty op p operand) d =
    gone_to dest (message_to t l (T.Reduce' ty op p operand) (next_of t l (reduced_bits op operand) true operand) dest d)
computed_to t l dest (T.Scan' ty p source axis combiner direction mode bit within) d =
    if bits_for dest == 32 then gone_to dest (message_to t l (T.Scan' ty p source axis combiner direction mode bit within) (next_of t l 32 true source) dest d)
    else moved t l dest (T.Scan' ty p source axis combiner direction mode bit within) d
computed_to t l dest (T.Call' ty instance p arguments) d =
    gone_to dest (call_to t l instance (values_of t l true (are_quiet arguments) arguments) dest d)
computed_to t l dest e d = moved t l dest e d

-- a value becomes that of a register, or as many of its bits as a field has that of the field
unfoldable pub put_to : Typed → Layout → Out → TExpr → Draft → Made Out
put_to t l dest e d = elim (word_for dest e) [ Some word ↦ word_put dest word d | None ↦ computed_to t l dest e d ]

-- the register that an operation writes: that of the variable, if its type has 32 bits, else a fresh
-- one whose value is then converted into it
unfoldable pub written_register : Elem → ℕ → Draft → Made ℕ
written_register elem r d = if elem.bits == 32 then Makes r d else a_register d

unfoldable pub with_settled : Elem → ℕ → ℕ → Draft → Draft
with_settled elem written r d = if elem.bits == 32 then d else with_instr (I.FrontConvert r written elem) d

-- an operator on a variable and a value
unfoldable pub register_operated : Typed → Layout → Op → Bool → Place → Elem → ℕ → TExpr → Draft → Made Out
register_operated t l op signed place elem r value d =
    then_make (next_of t l 32 true value d) (λ v between. in_register v (λ b. then_make (written_register elem r between)
    (λ written after. Makes (O.Scalar r) (with_settled elem written r (operated op signed place written r b after)))))

unfoldable pub field_operated : Typed → Layout → Op → Bool → Place → Field → TExpr → Draft → Made Out
field_operated t l op signed place f value d =
    then_make (a_field f.set f.len d) (λ spare begun. then_make (right_by (next_of t l f.len true value) op value begun)
    (λ v after. right_operated op signed place f f v spare after))

-- an operator on a variable, of a scalar or a parallel value
unfoldable pub variable_operated : Typed → Layout → Op → Place → TExpr → TExpr → Out → Draft → Made Out
variable_operated t l op place target value (O.Scalar r) d =
    register_operated t l op (assigned_signed op (type_of target).elem (type_of value).elem) place (type_of target).elem r value d
variable_operated t l op place target value (O.Field f) d =
    field_operated t l op (assigned_signed op (type_of target).elem (type_of value).elem) place f value d
variable_operated t l op place target value O.Nothing d = Fails

-- a step of a variable
unfoldable pub variable_stepped : Layout → Elem → StepOp → Out → Draft → Made Out
variable_stepped l elem op (O.Scalar r) d =
    then_make (word_in l 1 d) (λ one between. then_make (written_register elem r between)
    (λ written after. Makes (O.Scalar r) (with_settled elem written r (with_instr (I.FrontOperate (step_operation op) written r one) after))))
variable_stepped l elem op (O.Field f) d =
    Makes (O.Field f) (with_instr (I.OperateConstant (step_operation op) f f (K.Imm 1)) d)
variable_stepped l elem op O.Nothing d = Fails

-- is the value parallel and the variable scalar, so that it is folded
unfoldable pub folds : Own → TExpr → Bool
folds own value = is_none own.shape && not (is_kept value)

-- does an assignment to the variable write it itself: one with an operator where this needs no more bits
unfoldable pub writes_itself : Own → AssignOp → Elem → TExpr → Bool
writes_itself own op elem value =
    not (folds own value) && (elim (assign_op_of op) [ None ↦ true | Some o ↦ is_none own.shape || works_within elem o value ])

-- the variable that a target is, and the one that an assignment writes itself
abbrev pub assigned_own : AssignOp → TExpr → TExpr → Option Own
assigned_own op target value =
    elim (own_of 1 target) [ Some own ↦ if writes_itself own op (type_of target).elem value then Some own else None | None ↦ None ]

-- a variable, with all its bits
abbrev pub whole_of : Typed → Layout → TExpr → Own → Draft → Made Out
whole_of t l target own d = standing t l (type_of target).elem.bits own d

-- an assignment that writes its variable itself
abbrev pub variable_assigned : Typed → Layout → AssignOp → Place → TExpr → TExpr → Out → Draft → Made Out
variable_assigned t l op place target value dest d =
    elim (assign_op_of op) [
      | None ↦ put_to t l dest value d
      | Some o ↦ variable_operated t l o place target value dest d
    ]

-- an expression whose value is not used; what writes no variable itself is evaluated as any value
unfoldable pub assignment_effect : Typed → Layout → AssignOp → Place → TExpr → TExpr → Code → Draft → Made Out
assignment_effect t l op place target value whole d =
    elim (assigned_own op target value) [
      | Some own ↦ then_make (whole_of t l target own d) (λ dest after. variable_assigned t l op place target value dest after)
      | None ↦ whole d
    ]

-- the variable that a step writes itself; one of `bool` is converted behind it
abbrev pub stepped_own : TExpr → Option Own
stepped_own target =
    elim (own_of 1 target) [ Some own ↦ if is_none own.shape || not ((type_of target).elem.bits == 1) then Some own else None | None ↦ None ]

unfoldable pub step_effect : Typed → Layout → StepOp → TExpr → Code → Draft → Made Out
step_effect t l op target whole d =
    elim (stepped_own target) [
      | Some own ↦ then_make (whole_of t l target own d) (λ dest after. variable_stepped l (type_of target).elem op dest after)
      | None ↦ whole d
    ]

-- of a value that is not used no more bits are wanted than its type has
unfoldable pub effect_of : Typed → Layout → TExpr → Draft → Made Out
effect_of t l (T.Brackets' ty p inner) d = effect_of t l inner d
effect_of t l (T.Assign' ty place op p target q value) d =
    assignment_effect t l op place target value (value_of t l ty.elem.bits (T.Assign' ty place op p target q value)) d
effect_of t l (T.Step' ty op order p target) d = step_effect t l op target (value_of t l ty.elem.bits (T.Step' ty op order p target)) d
effect_of t l e d = value_of t l (type_of e).elem.bits e d

-- how many instructions these have
unfoldable pub length_unchanged : Bool → ℕ → Elem → TExpr → Bool
length_unchanged scalar bits elem operand = if scalar then elem.bits == 32 else keeps_bits bits elem operand

unfoldable pub converted_to_length : Typed → Layout → Bool → ℕ → TExpr → Elem → TExpr → ℕ
converted_to_length t l scalar bits e elem operand =
    if scalar then used_length_of t l 32 true operand + 1
    else if is_kept operand then used_length_of t l bits true e + 1
    else if elem.bits == 1 then tested_length t l operand + test_put_length bits
    else used_length_of t l elem.bits true operand + 1

unfoldable pub logical_to_length : Typed → Layout → Bool → ℕ → TExpr → TExpr → TExpr → ℕ
logical_to_length t l scalar bits e left right =
    if not scalar && joins left right then joined_length_of t l bits left right else used_length_of t l bits true e + 1

unfoldable pub computed_length : Typed → Layout → Bool → ℕ → TExpr → ℕ
computed_length t l scalar bits (T.Brackets' ty p inner) = computed_length t l scalar bits inner
computed_length t l scalar bits (T.Convert' ty p operand) =
    if length_unchanged scalar bits ty.elem operand then computed_length t l scalar bits operand
    else converted_to_length t l scalar bits (T.Convert' ty p operand) ty.elem operand
computed_length t l scalar bits (T.Unary' ty op p operand) =
    if is_plus op then computed_length t l scalar bits operand else length_of t l bits (T.Unary' ty op p operand)
computed_length t l scalar bits (T.Binary' ty place op p left q right) =
    if scalar || fits_field bits op right then length_of t l bits (T.Binary' ty place op p left q right)
    else used_length_of t l bits true (T.Binary' ty place op p left q right) + 1
computed_length t l scalar bits (T.LogicalOr' ty p left q right) = logical_to_length t l scalar bits (T.LogicalOr' ty p left q right) left right
computed_length t l scalar bits (T.LogicalAnd' ty p left q right) = logical_to_length t l scalar bits (T.LogicalAnd' ty p left q right) left right
computed_length t l scalar bits (T.Pcoord ty axis) = 1
computed_length t l scalar bits (T.Variable ty x) = 1
computed_length t l scalar bits (T.GetChar ty) = 1
computed_length t l scalar bits (T.Choice' ty p test q first r second) =
    length_of t l bits (T.Choice' ty p test q first r second) + (if is_kept test then 0 else 1)
computed_length t l scalar bits (T.Element' ty place array p index) = length_of t l bits (T.Element' ty place array p index)
computed_length t l scalar bits (T.LeftIndex' ty place p indexes x of) = length_of t l bits (T.LeftIndex' ty place p indexes x of)
computed_length t l scalar bits (T.Reduce' ty op p operand) = length_of t l bits (T.Reduce' ty op p operand)
computed_length t l scalar bits (T.Scan' ty p source axis combiner direction mode bit within) =
    if bits == 32 then length_of t l bits (T.Scan' ty p source axis combiner direction mode bit within)
    else used_length_of t l bits true (T.Scan' ty p source axis combiner direction mode bit within) + 1
computed_length t l scalar bits (T.Call' ty instance p arguments) = length_of t l bits (T.Call' ty instance p arguments)
computed_length t l scalar bits e = used_length_of t l bits true e + 1

unfoldable pub put_length : Typed → Layout → Bool → ℕ → TExpr → ℕ
put_length t l scalar bits e = if has_word scalar e then 1 else computed_length t l scalar bits e

unfoldable pub settled_length : Elem → ℕ
settled_length elem = if elem.bits == 32 then 0 else 1

unfoldable pub operated_length : Typed → Layout → Bool → Elem → Op → TExpr → ℕ
operated_length t l scalar elem op value =
    if scalar then (used_length_of t l 32 true value + operate_length 32 op true) + settled_length elem
    else right_length elem.bits (used_length_of t l elem.bits true value) op value

-- how many bits a variable takes
unfoldable pub own_bits : Bool → Elem → ℕ
own_bits scalar elem = if scalar then 32 else elem.bits

abbrev pub assigned_length : Typed → Layout → Bool → AssignOp → Elem → TExpr → ℕ
assigned_length t l scalar op elem value =
    elim (assign_op_of op) [
      | None ↦ put_length t l scalar (own_bits scalar elem) value
      | Some o ↦ operated_length t l scalar elem o value
    ]

abbrev pub stepped_length : Layout → Bool → Elem → ℕ
stepped_length l scalar elem = if scalar then (word_length l 1 + 1) + settled_length elem else 1

unfoldable pub assignment_length : Typed → Layout → AssignOp → TExpr → TExpr → ℕ → ℕ
assignment_length t l op target value whole =
    elim (assigned_own op target value) [
      | Some own ↦ assigned_length t l (is_none own.shape) op (type_of target).elem value
      | None ↦ whole
    ]

unfoldable pub step_effect_length : Layout → TExpr → ℕ → ℕ
step_effect_length l target whole =
    elim (stepped_own target) [ Some own ↦ stepped_length l (is_none own.shape) (type_of target).elem | None ↦ whole ]

unfoldable pub effect_length_of : Typed → Layout → TExpr → ℕ
effect_length_of t l (T.Brackets' ty p inner) = effect_length_of t l inner
effect_length_of t l (T.Assign' ty place op p target q value) =
    assignment_length t l op target value (length_of t l ty.elem.bits (T.Assign' ty place op p target q value))
effect_length_of t l (T.Step' ty op order p target) =
    step_effect_length l target (length_of t l ty.elem.bits (T.Step' ty op order p target))
effect_length_of t l e = length_of t l (type_of e).elem.bits e
