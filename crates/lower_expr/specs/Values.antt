-- The code of an expression, of whose value so many bits are wanted where it is parallel: its field has
-- so many. A value goes to a register or a field that is taken first; those of its parts are taken
-- behind it, in the order of the text. An operand that is a variable is used where it stands, or copied
-- where a later part may change it.
use Rattle.std.specs.Prelude.{ℕ, ◌+◌, ◌==◌, Bool, true, false, not, ◌||◌, nat_lt, if◌then◌else◌, List, [], ◌∷◌, ◌++◌, Option, Some, None, unwrap_or}
use Rattle.std.specs.Int.{from_bool}
use Rattle.cstar_base.specs.declared.elem.Elem.{Elem}
use Rattle.cstar_base.specs.declared.operators.Op.{Op}
use Rattle.cstar_base.specs.declared.operators.Place.{Place}
use Rattle.cstar_tree.specs.declared.syntax.AssignOp.{AssignOp}
use Rattle.cstar_tree.specs.declared.syntax.StepOp.{StepOp}
use Rattle.cstar_tree.specs.declared.syntax.StepOp.TheVariants as Sp
use Rattle.cstar_tree.specs.declared.typed.Piece.{Piece}
use Rattle.cstar_tree.specs.declared.typed.StepOrder.{StepOrder}
use Rattle.cstar_tree.specs.declared.typed.StepOrder.TheVariants as Or
use Rattle.cstar_tree.specs.declared.typed.TExpr.{TExpr, Row_of-TExpr, end_of-TExpr, more_of-TExpr}
use Rattle.cstar_tree.specs.declared.typed.TExpr as T
use Rattle.cstar_tree.specs.declared.typed.Typed.{Typed}
use Rattle.cstar_tree.specs.declared.typed.UnaryOp.{UnaryOp}
use Rattle.cstar_tree.specs.declared.typed.ValueType.{ValueType}
use Rattle.cstar_tree.specs.declared.typed.Variable.{Variable}
use Rattle.cstar_tree.specs.Typed.{type_of}
use Rattle.paris_code.specs.declared.instr.Instr.TheVariants as I
use Rattle.paris_code.specs.declared.operands.Field.{Field}
use Rattle.paris_code.specs.declared.operands.Konst.TheVariants as K
use Rattle.paris_code.specs.declared.operands.Operation.{Operation}
use Rattle.paris_code.specs.declared.operands.Operation.TheVariants as Act
use Rattle.lower_base.specs.declared.emit.Out.{Out}
use Rattle.lower_base.specs.declared.emit.Out.TheVariants as O
use Rattle.lower_base.specs.Drafts.{Draft, Made, Makes, Fails, then_make, from, here, with_instr, a_register, a_field, a_flag, fresh_for, shortened, in_register, in_field}
use Rattle.lower_base.specs.Constants.{word_in}
use Rattle.lower_base.specs.Layouts.{Layout, field_of, first_named, layout_of}
use Rattle.lower_base.specs.Kinds.{bits_of, kind_of}
use Rattle.lower_comm.specs.Messages.{located, checked_grid, communicated}
use Rattle.lower_comm.specs.News.{goes_by_news}
use Rattle.lower_base.specs.declared.operators.Machine.{Machine}
use Rattle.lower_base.specs.declared.operators.Machine.TheVariants as M
use Rattle.lower_base.specs.Operators.{assign_op_of, is_signed, machine_of, relates}
use Rattle.lower_expr.specs.declared.spots.Spot.{Spot}
use Rattle.lower_expr.specs.declared.spots.Spot.TheVariants as S
use Rattle.lower_expr.specs.declared.steps.Right.{Right}
use Rattle.lower_expr.specs.declared.steps.Right.TheVariants as R
use Rattle.lower_expr.specs.Frames.{called}
use Rattle.lower_expr.specs.Joined.{joins, is_flag, flag_by, joined}
use Rattle.lower_expr.specs.Kinds.{assigned_bits, done_as, list_bits, operand_bits, operator_bits, reads_signed, reduced_bits, relation_kind, result_bits, unary_bits}
use Rattle.lower_expr.specs.Lengths.{is_send, length_of, arm_length_of, test_put_length, tested_length}
use Rattle.lower_expr.specs.Operands.{is_plus, is_quiet, are_quiet, all_quiet, operand_by, operand_length}
use Rattle.lower_expr.specs.Positions.{known_position}
use Rattle.lower_expr.specs.Spots.{variable_spot, index_checked, loaded, stored}
use Rattle.lower_expr.specs.Steps.{is_kept, has_truth, word_for, word_put, word_of, word_taken, constant_in, put_test, converted_in_place, put_value, operated, right_operated, in_a_field, negated, pieces_printed, assigned_signed}

-- the code of a value, and that of a list of values
abbrev pub Code : Type 0
Code = Draft → Made Out

-- the code of what the test flags become
abbrev pub Test : Type 0
Test = Draft → Made (Unit {0})

abbrev pub Codes : Type 0
Codes = List Out → Draft → Made (List Out)

-- A parallel operand in a field: a promoted constant is written to the field that is given, and so
-- is a promoted scalar behind its own code.
unfoldable pub spread_into : Code → TExpr → Field → Draft → Made Field
spread_into code e dest d = elim (word_of e) [
  | Some word ↦ Makes dest (with_instr (I.MoveConstant dest (K.Imm word)) d)
  | None ↦ then_make (code d) (λ v after. in_a_field v dest after)
]

unfoldable pub spread_by : Code → TExpr → ℕ → ℕ → Draft → Made Out
spread_by code e set bits d =
    if is_kept e then then_make (a_field set bits d) (λ dest between. then_make (spread_into code e dest between)
    (λ f after. Makes (O.Field f) after))
    else code d

-- the right operand of a parallel operation: a constant that the operation takes has no code
unfoldable pub right_given : Out → Option Right
right_given (O.Field f) = Some (R.Field f)
right_given (O.Scalar r) = Some (R.Word (K.Reg r))
right_given O.Nothing = None

unfoldable pub right_by : Code → Op → TExpr → Draft → Made Right
right_by code op e d = elim (word_taken op e) [
  | Some word ↦ Makes (R.Word (K.Imm word)) d
  | None ↦ then_make (code d) (λ v after. from (right_given v) (λ right. Makes right after))
]

-- the lowest bits of what is made
unfoldable pub lowest : ℕ → Made Out → Made Out
lowest bits made = then_make made (λ v after. Makes (shortened bits v) after)

-- the own coordinate, and the next byte of the input
unfoldable pub coordinate_in : Option ℕ → ℕ → ℕ → Draft → Made Out
coordinate_in shape bits axis d =
    then_make (a_field (unwrap_or shape 0) bits d) (λ f after. Makes (O.Field f) (with_instr (I.MyNewsCoordinate f axis) after))

unfoldable pub byte_in : Draft → Made Out
byte_in d = then_make (a_register d) (λ r after. Makes (O.Scalar r) (with_instr (I.FrontGetByte r) after))

-- a chain of casts, from the innermost to the outermost
unfoldable pub casts_put : List Elem → ℕ → Draft → Draft
casts_put [] r d = d
casts_put (kind ∷ inner) r d = with_instr (I.FrontConvert r r kind) (casts_put inner r d)

-- A parallel value converted to a type: to `bool` by its test, to a type that has fewer bits than are
-- wanted by its bits of that type, which are extended; else the wanted bits stay as they are.
unfoldable pub extended : Bool → Field → Code → Draft → Made Out
extended signed dest code d =
    then_make (code d) (λ v after. in_field v (λ source. Makes (O.Field dest) (with_instr (I.Move signed dest source) after)))

unfoldable pub truth_put : Field → Test → Draft → Made Out
truth_put dest test d = then_make (test d) (λ _ after. put_test dest after)

unfoldable pub cast_by : ℕ → ℕ → Elem → Test → Code → Code → Draft → Made Out
cast_by set bits elem test own whole d =
    if elem.bits == 1 then then_make (a_field set bits d) (λ dest begun. truth_put dest test begun)
    else if nat_lt elem.bits bits then then_make (a_field set bits d) (λ dest begun. extended elem.signed dest own begun)
    else whole d

-- a value that is kept in a register, converted there
unfoldable pub register_cast_by : Elem → Code → Draft → Made Out
register_cast_by elem code d = then_make (code d) (λ v after. converted_in_place v elem after)

-- a unary operator; `+` has no code
unfoldable pub unary_by : Layout → ValueType → ℕ → UnaryOp → Code → Code → Draft → Made Out
unary_by l ty bits op code operand d =
    if is_plus op then code d
    else then_make (fresh_for ty.shape bits d) (λ dest between. then_make (operand between) (λ v after. negated l op dest v after))

-- a binary operator on registers, and one on fields: its last instruction writes the result, and a
-- scalar operand that the operation does not take is spread into the spare field
unfoldable pub registers_by : Op → Bool → Place → ℕ → Code → Code → Draft → Made Out
registers_by op signed place r first second d =
    then_make (first d) (λ v between. in_register v (λ a. then_make (second between) (λ w after. in_register w
    (λ b. Makes (O.Scalar r) (operated op signed place r a b after)))))

unfoldable pub fields_by : Op → Bool → Place → Field → Field → Code → TExpr → Code → TExpr → Draft → Made Out
fields_by op signed place f spare first left second right d =
    then_make (spread_into first left spare d) (λ a between. then_make (right_by second op right between)
    (λ b after. right_operated op signed place f a b spare after))

-- the spare field is the result's, but for a relation, whose operands have other bits
unfoldable pub spare_for : Op → Field → ℕ → Draft → Made Field
spare_for op dest bits d = if relates op then a_field dest.set bits d else Makes dest d

unfoldable pub parallel_binary_by : ℕ → ℕ → Op → Place → Code → TExpr → Code → TExpr → Draft → Made Out
parallel_binary_by set bits op place first left second right d =
    then_make (a_field set (result_bits bits op right) d) (λ dest begun.
    then_make (spare_for op dest (operand_bits bits op left right) begun) (λ spare between.
    lowest bits (fields_by op (reads_signed op left right) place dest spare first left second right between)))

unfoldable pub binary_by : Option ℕ → ℕ → Op → Place → Code → TExpr → Code → TExpr → Draft → Made Out
binary_by None bits op place first left second right d =
    then_make (a_register d) (λ r after. registers_by op (is_signed (type_of left).elem) place r first second after)
binary_by (Some set) bits op place first left second right d = parallel_binary_by set bits op place first left second right d

-- a jump where the left operand of `&&` is zero, or that of `||` is not
unfoldable pub jump_if_decided : Bool → ℕ → ℕ → Draft → Draft
jump_if_decided is_or test target d =
    if is_or then with_instr (I.FrontJumpNonzero test target) d else with_instr (I.FrontJumpZero test target) d

-- the context narrowed to where the test flag of the left operand of `&&` is 1, or that of `||` is 0
unfoldable pub narrowed_by : Bool → ℕ → Draft → Draft
narrowed_by is_or set d =
    if is_or then with_instr (I.LogandcContextWithTest set) d else with_instr (I.LogandContextWithTest set) d

-- The place behind so many instructions, to which the jump leads where the first operand decides.
unfoldable pub decided : Bool → Out → ℕ → ℕ → Draft → Made ℕ
decided is_or v n own d =
    in_register v (λ a. Makes ((here d + n) + own) (jump_if_decided is_or a ((here d + n) + own) d))

-- the context narrowed to where a condition holds, behind the saving of the old one
unfoldable pub limited : Field → Out → Draft → Made Field
limited saved v d =
    in_field v (λ a. Makes a (narrowed_by false a.set (with_instr (I.NeZero a) (with_instr (I.StoreContext saved) d))))

-- `&&` and `||` of scalars: the result begins as what a decided left operand gives
unfoldable pub logical_ended : Bool → ℕ → Out → ℕ → Draft → Made Out
logical_ended is_or dest w end d =
    in_register w (λ b. Makes (O.Scalar dest) (with_instr (I.FrontConst dest (from_bool (not is_or))) (jump_if_decided is_or b end d)))

unfoldable pub scalar_logical_by : Bool → Code → Code → ℕ → Draft → Made Out
scalar_logical_by is_or first second n d =
    then_make (constant_in (from_bool is_or) d) (λ out begun. in_register out (λ dest. then_make (first begun) (λ v between.
    then_make (decided is_or v n 3 between) (λ end next. then_make (second next) (λ w after. logical_ended is_or dest w end after)))))

-- the test flags: is a parallel value not zero, and is it zero
unfoldable pub nonzero_tested : Code → Test
nonzero_tested code d = then_make (code d) (λ v after. in_field v (λ source. Makes tt (with_instr (I.NeZero source) after)))

unfoldable pub zero_tested : Code → Test
zero_tested code d = then_make (code d) (λ v after. in_field v (λ source. Makes tt (with_instr (I.EqZero source) after)))

unfoldable pub tested_by : Bool → Test → Code → Test
tested_by has_truth truth code d = if has_truth then truth d else nonzero_tested code d

-- a relation of fields in the test flags
unfoldable pub compared : Machine → Field → Right → Field → Test
compared (M.Operate act) left right spare d = Fails
compared (M.Compare relation) left (R.Field right) spare d = Makes tt (with_instr (I.Compare relation left right) d)
compared (M.Compare relation) left (R.Word word) spare d =
    Makes tt (with_instr (I.Compare relation left spare) (with_instr (I.MoveConstant spare word) d))

unfoldable pub relation_by : ℕ → Op → Code → TExpr → Code → TExpr → Test
relation_by set op first left second right d =
    then_make (a_field set (bits_of (relation_kind left right)) d) (λ spare begun. then_make (spread_into first left spare begun) (λ a between.
    then_make (right_by second op right between) (λ b after. compared (machine_of op (reads_signed op left right)) a b spare after)))

-- `&&` and `||` with a parallel right operand, behind a scalar left one: a jump
unfoldable pub decided_by : Bool → Field → Code → Test → ℕ → Draft → Made Out
decided_by is_or dest first second n d =
    then_make (first d) (λ v between. then_make (decided is_or v n (1 + test_put_length dest.len) between)
    (λ _ next. truth_put dest second next))

-- behind a parallel left one: a narrower context for the right one and for the result
unfoldable pub jumped : Bool → Out → Test
jumped is_or w d = in_register w (λ b. Makes tt (jump_if_decided is_or b (here d + 2) d))

unfoldable pub jumped_over : Bool → Code → Test
jumped_over is_or code d = then_make (code d) (λ w after. jumped is_or w after)

unfoldable pub narrowed_again : Bool → ℕ → Test → Test
narrowed_again is_or set test d = then_make (test d) (λ _ after. Makes tt (narrowed_by is_or set after))

unfoldable pub limited_by : Bool → Field → Field → Test → Test → Draft → Made Out
limited_by is_or dest saved first next d =
    then_make (first d) (λ _ known. then_make (next (narrowed_by is_or dest.set (with_instr (I.StoreContext saved) known)))
    (λ _ after. Makes (O.Field dest) (with_instr (I.LoadContext saved)
    (with_instr (I.MoveConstant dest (K.Imm (from_bool (not is_or)))) after))))

-- an operand of `&&` or `||`: its code, and what tests it, with their lengths
pub record Condition : Type 0 where
  pub operand : TExpr
  pub code : Code
  pub long : ℕ
  pub test : Test
  pub tested_long : ℕ

-- both operands as fields of one bit, which one operation joins
unfoldable pub flag_of : ℕ → Condition → Draft → Made Field
flag_of set c d = flag_by (is_flag c.operand) set c.code c.test d

unfoldable pub joined_by : Bool → Field → Condition → Condition → Draft → Made Out
joined_by is_or dest left right d =
    then_make (flag_of dest.set left d) (λ f between. then_make (flag_of dest.set right between) (λ g after. joined is_or dest f g after))

-- the left operand decides: by a jump, or by a narrower context
unfoldable pub narrowing_by : Bool → Field → Condition → Condition → Draft → Made Out
narrowing_by is_or dest left right d =
    then_make (a_flag dest.set d) (λ saved next.
    let ready = with_instr (I.MoveConstant dest (K.Imm (from_bool is_or))) next in
    if is_kept left.operand then decided_by is_or dest left.code right.test right.tested_long ready
    else limited_by is_or dest saved left.test (if is_kept right.operand then jumped_over is_or right.code else narrowed_again is_or dest.set right.test) ready)

unfoldable pub parallel_logical_by : Bool → Field → Condition → Condition → Draft → Made Out
parallel_logical_by is_or dest left right d =
    if joins left.operand right.operand then joined_by is_or dest left right d else narrowing_by is_or dest left right d

unfoldable pub logical_by : Bool → Option ℕ → ℕ → Condition → Condition → Draft → Made Out
logical_by is_or None bits left right d = scalar_logical_by is_or left.code right.code right.long d
logical_by is_or (Some set) bits left right d =
    then_make (a_field set bits d) (λ dest begun. parallel_logical_by is_or dest left right begun)

-- an arm of `?:`, which becomes the value of a register or a field: a constant in one instruction
abbrev pub Arm : Type 0
Arm = Out → Draft → Made Out

unfoldable pub arm_by : Code → TExpr → Arm
arm_by code e dest d =
    elim (word_for dest e) [ Some word ↦ word_put dest word d | None ↦ then_make (code d) (λ v after. put_value dest v after) ]

-- `?:` with a scalar condition: one of the two is evaluated
unfoldable pub scalar_choice_by : Out → Code → Arm → Arm → ℕ → ℕ → Draft → Made Out
scalar_choice_by dest test first second n m d =
    then_make (test d) (λ c begun. then_make (decided false c n 2 begun) (λ other next.
    then_make (first dest next) (λ _ half. second dest (with_instr (I.FrontJump (other + m)) half))))

-- `?:` with a parallel condition: both are evaluated, each where it counts
unfoldable pub turned_over : Field → Field → Draft → Draft
turned_over saved condition d =
    narrowed_by true condition.set (with_instr (I.NeZero condition) (with_instr (I.LoadContext saved) d))

unfoldable pub parallel_choice_by : Out → Code → Arm → Arm → Draft → Made Out
parallel_choice_by dest test first second d =
    in_field dest (λ f. then_make (a_flag f.set d) (λ saved begun. then_make (test begun) (λ c next.
    then_make (limited saved c next) (λ condition third. then_make (first dest third) (λ _ fourth.
    then_make (second dest (turned_over saved condition fourth)) (λ _ last. Makes dest (with_instr (I.LoadContext saved) last)))))))

unfoldable pub choice_by : ValueType → ℕ → Bool → Code → Arm → Arm → ℕ → ℕ → Draft → Made Out
choice_by ty bits kept test first second n m d =
    then_make (fresh_for ty.shape bits d) (λ dest after.
    if kept then scalar_choice_by dest test first second n m after else parallel_choice_by dest test first second after)

-- the spot of an element, and that of a left index
unfoldable pub element_spot : Typed → Layout → ValueType → Place → Variable → Code → Draft → Made Spot
element_spot t l ty place array index d =
    then_make (index d) (λ v between. in_register v (λ r.
    then_make (index_checked t l array (unwrap_or ty.shape 0) place r between) (λ _ after. Makes (S.Element array r) after)))

unfoldable pub indexed_spot : Typed → Layout → TExpr → Codes → Draft → Made Spot
indexed_spot t l e indexes d =
    elim (known_position t e) [
      | Some position ↦ then_make (word_in l position d) (λ r after. Makes (S.Indexed (O.Scalar r)) after)
      | None ↦ then_make (fresh_for (type_of e).shape 32 d) (λ at begun. then_make (indexes [] begun) (λ parts between.
          then_make (located e parts at between) (λ out after. Makes (S.Indexed out) after)))
    ]

-- the value at a spot, and that of a get by NEWS, to a register or a field
unfoldable pub read_to : Typed → Layout → TExpr → (Draft → Made Spot) → Out → Draft → Made Out
read_to t l e spot dest d = then_make (spot d) (λ there after. loaded t l e there dest after)

unfoldable pub news_to : Typed → Layout → TExpr → Out → Draft → Made Out
news_to t l e dest d = then_make (checked_grid e d) (λ _ after. communicated t l e O.Nothing [] dest after)

unfoldable pub index_read_to : Typed → Layout → TExpr → (Draft → Made Spot) → Out → Draft → Made Out
index_read_to t l e spot dest d = if goes_by_news e then news_to t l e dest d else read_to t l e spot dest d

unfoldable pub read_by : Typed → Layout → TExpr → ValueType → ℕ → (Draft → Made Spot) → Draft → Made Out
read_by t l e ty bits spot d = then_make (fresh_for ty.shape bits d) (λ dest begun. read_to t l e spot dest begun)

unfoldable pub index_read_by : Typed → Layout → TExpr → ValueType → ℕ → (Draft → Made Spot) → Draft → Made Out
index_read_by t l e ty bits spot d = then_make (fresh_for ty.shape bits d) (λ dest begun. index_read_to t l e spot dest begun)

-- an assignment without an operator; a send has no value
unfoldable pub set_by : Typed → Layout → TExpr → (Draft → Made Spot) → Code → Draft → Made Out
set_by t l e spot code d =
    then_make (spot d) (λ there between. then_make (code between) (λ v after. stored t l e there v after))

unfoldable pub sent_by : Typed → Layout → TExpr → (Draft → Made Spot) → Code → Draft → Made Out
sent_by t l e spot code d =
    then_make (spot d) (λ there between. then_make (code between) (λ v after.
    then_make (stored t l e there v after) (λ _ last. Makes O.Nothing last)))

-- an assignment with an operator, to a parallel target that is located
unfoldable pub field_updated : Typed → Layout → TExpr → Op → Bool → Place → TExpr → Field → Field → Spot → Right → Draft → Made Out
field_updated t l e op signed place target dest spare there v d =
    then_make (loaded t l target there (O.Field dest) d) (λ _ begun.
    then_make (right_operated op signed place dest dest v spare begun) (λ _ between.
    then_make (converted_in_place (O.Field dest) (type_of target).elem between) (λ _ after.
    stored t l e there (O.Field dest) after)))

-- to a scalar target: of a scalar value, and of a parallel one, which is folded
unfoldable pub register_updated : Typed → Layout → TExpr → Op → Bool → Place → TExpr → ℕ → Spot → Out → Draft → Made Out
register_updated t l e op signed place target dest there v d =
    then_make (loaded t l target there (O.Scalar dest) d) (λ _ between. in_register v (λ r.
    then_make (converted_in_place (O.Scalar dest) (type_of target).elem (operated op signed place dest dest r between))
    (λ _ after. stored t l e there (O.Scalar dest) after)))

unfoldable pub register_folded : Typed → Layout → TExpr → TExpr → ℕ → Spot → Out → Draft → Made Out
register_folded t l e target dest there v d =
    then_make (a_register d) (λ old begun. then_make (loaded t l target there (O.Scalar old) begun) (λ _ between.
    then_make (communicated t l e O.Nothing (v ∷ O.Scalar old ∷ []) (O.Scalar dest) between)
    (λ _ after. stored t l e there (O.Scalar dest) after)))

unfoldable pub updated_by : Typed → Layout → TExpr → Op → Place → TExpr → TExpr → Option ℕ → (Draft → Made Spot) → Code → Draft → Made Out
updated_by t l e op place target value (Some set) spot code d =
    then_make (a_field set 32 d) (λ dest begun. then_make (a_field set 32 begun) (λ spare next.
    then_make (spot next) (λ there between. then_make (right_by (operand_by t l 32 code true value) op value between) (λ v after.
    field_updated t l e op (assigned_signed op (type_of target).elem (type_of value).elem) place target dest spare there v after))))
updated_by t l e op place target value None spot code d =
    then_make (a_register d) (λ dest begun. then_make (spot begun) (λ there between.
    then_make (operand_by t l (operator_bits op None value) code true value between) (λ v after.
    if is_kept value then register_updated t l e op (assigned_signed op (type_of target).elem (type_of value).elem) place target dest there v after
    else register_folded t l e target dest there v after)))

-- an assignment
unfoldable pub plainly_set_by : Typed → Layout → TExpr → ℕ → TExpr → Option ℕ → (Draft → Made Spot) → Code → Draft → Made Out
plainly_set_by t l e bits value (Some set) spot code d = set_by t l e spot (spread_by code value set bits) d
plainly_set_by t l e bits value None spot code d = set_by t l e spot code d

unfoldable pub assigned_by : Typed → Layout → TExpr → ℕ → Option Op → Place → TExpr → TExpr → Option ℕ → (Draft → Made Spot) → Code → Draft → Made Out
assigned_by t l e bits None place target value shape spot code d = plainly_set_by t l e bits value shape spot code d
assigned_by t l e bits (Some op) place target value shape spot code d = updated_by t l e op place target value shape spot code d

-- so many bits of the value are computed
abbrev pub taken_bits : ℕ → AssignOp → TExpr → TExpr → ℕ
taken_bits bits op target value = assigned_bits bits op (is_send target) (type_of target) value

unfoldable pub assign_by : Typed → Layout → TExpr → ℕ → AssignOp → Place → TExpr → TExpr → (Draft → Made Spot) → Code → Draft → Made Out
assign_by t l e bits op place target value spot code d =
    if is_send target then sent_by t l e spot (spread_by code value (unwrap_or (type_of target).shape 0) (taken_bits bits op target value)) d
    else lowest bits (assigned_by t l e (taken_bits bits op target value) (assign_op_of op) place target value (type_of target).shape spot code d)

-- one more, or one less
unfoldable pub step_operation : StepOp → Operation
step_operation Sp.Increment = Act.SAdd
step_operation Sp.Decrement = Act.SSubtract

unfoldable pub stepped_once : Layout → StepOp → Out → Out → Draft → Made Out
stepped_once l op old (O.Scalar dest) d =
    in_register old (λ r. then_make (word_in l 1 d)
    (λ one after. Makes (O.Scalar dest) (with_instr (I.FrontOperate (step_operation op) dest r one) after)))
stepped_once l op old (O.Field dest) d =
    in_field old (λ f. Makes (O.Field dest) (with_instr (I.OperateConstant (step_operation op) dest f (K.Imm 1)) d))
stepped_once l op old O.Nothing d = Fails

-- a step at a spot, from the old value to the new one
unfoldable pub stepped_at : Typed → Layout → TExpr → StepOp → TExpr → Spot → Out → Out → Draft → Made Out
stepped_at t l e op target there old new d =
    then_make (loaded t l target there old d) (λ _ begun. then_make (stepped_once l op old new begun) (λ _ between.
    then_make (converted_in_place new (type_of target).elem between) (λ _ after. stored t l e there new after)))

unfoldable pub stepped_in : Typed → Layout → TExpr → StepOp → StepOrder → TExpr → Spot → Out → Out → Draft → Made Out
stepped_in t l e op Or.Prefix target there outcome second d =
    then_make (stepped_at t l e op target there second outcome d) (λ _ after. Makes outcome after)
stepped_in t l e op Or.Postfix target there outcome second d =
    then_make (stepped_at t l e op target there outcome second d) (λ _ after. Makes outcome after)

-- the value of a step, and the other one of the two in a second register or field
unfoldable pub step_by : Typed → Layout → TExpr → ℕ → StepOp → StepOrder → TExpr → (Draft → Made Spot) → Draft → Made Out
step_by t l e bits op order target spot d =
    then_make (fresh_for (type_of target).shape 32 d) (λ outcome begun. then_make (fresh_for (type_of target).shape 32 begun) (λ second next.
    then_make (spot next) (λ there after. lowest bits (stepped_in t l e op order target there outcome second after))))

-- a reduction or a scan of a value, to a register or a field
unfoldable pub message_to : Typed → Layout → TExpr → Code → Out → Draft → Made Out
message_to t l e code dest d = then_make (code d) (λ v after. communicated t l e O.Nothing (v ∷ []) dest after)

unfoldable pub message_by : Typed → Layout → TExpr → ValueType → ℕ → Code → Draft → Made Out
message_by t l e ty bits code d = then_make (fresh_for ty.shape 32 d) (λ dest begun. lowest bits (message_to t l e code dest begun))

-- a call with the values of its arguments, whose result goes to a register or a field
unfoldable pub call_to : Typed → Layout → ℕ → Codes → Out → Draft → Made Out
call_to t l instance arguments dest d = then_make (arguments [] d) (λ given after. called t l instance given dest after)

-- an operand of `&&` or `||`, by the codes of its value and of its truth
unfoldable pub condition_by : Typed → Layout → Code → Test → TExpr → Condition
condition_by t l code truth e = record {
  operand = e;
  code = operand_by t l (bits_of (kind_of e)) code true e;
  long = operand_length l (bits_of (kind_of e)) (length_of t l (bits_of (kind_of e)) e) true e;
  test = tested_by (has_truth e) truth (operand_by t l (bits_of (kind_of e)) code true e);
  tested_long = tested_length t l e;
}

-- a conversion of an expression, by the code of its truth and the codes of its values of any bits
unfoldable pub cast_from : Typed → Layout → ℕ → ValueType → TExpr → Test → (ℕ → Code) → Draft → Made Out
cast_from t l bits ty e truth code d =
    cast_by (unwrap_or ty.shape 0) bits ty.elem
    (tested_by (has_truth e) truth
    (spread_by (operand_by t l (bits_of (kind_of e)) (code (bits_of (kind_of e))) true e) e (unwrap_or ty.shape 0) (bits_of (kind_of e))))
    (spread_by (operand_by t l ty.elem.bits (code ty.elem.bits) true e) e (unwrap_or ty.shape 0) ty.elem.bits)
    (spread_by (code bits) e (unwrap_or ty.shape 0) bits) d

unfoldable mutual
  -- so many bits of the value of an expression; that of a promoted scalar stays in its register
  pub value_of : Typed → Layout → ℕ → TExpr → Draft → Made Out
  value_of t l bits (T.Assign' ty place op p target q value) d =
      assign_by t l (T.Assign' ty place op p target q value) bits op place target value (spot_of t l target)
      (value_of t l (taken_bits bits op target value) value) d
  value_of t l bits (T.Choice' ty p test q first r second) d =
      choice_by ty bits (is_kept test)
      (operand_by t l (bits_of (kind_of test)) (value_of t l (bits_of (kind_of test)) test) (is_kept test || is_quiet first) test)
      (arm_by (operand_by t l bits (value_of t l bits first) true first) first) (arm_by (operand_by t l bits (value_of t l bits second) true second) second)
      (arm_length_of t l ty bits first) (arm_length_of t l ty bits second) d
  value_of t l bits (T.LogicalOr' ty p left q right) d =
      logical_by true ty.shape bits (condition_by t l (value_of t l (bits_of (kind_of left)) left) (truth_of t l left) left)
      (condition_by t l (value_of t l (bits_of (kind_of right)) right) (truth_of t l right) right) d
  value_of t l bits (T.LogicalAnd' ty p left q right) d =
      logical_by false ty.shape bits (condition_by t l (value_of t l (bits_of (kind_of left)) left) (truth_of t l left) left)
      (condition_by t l (value_of t l (bits_of (kind_of right)) right) (truth_of t l right) right) d
  value_of t l bits (T.Binary' ty place op p left q right) d =
      binary_by ty.shape bits op place
      (operand_by t l (operand_bits bits op left right) (value_of t l (operand_bits bits op left right) left) (is_quiet right) left) left
      (operand_by t l (operand_bits bits op left right) (value_of t l (operand_bits bits op left right) right) true right) right d
  value_of t l bits (T.Unary' ty op p operand) d =
      unary_by l ty bits (done_as bits op operand) (value_of t l bits operand)
      (operand_by t l (unary_bits bits op operand) (value_of t l (unary_bits bits op operand) operand) true operand) d
  value_of t l bits (T.Step' ty op order p target) d =
      step_by t l (T.Step' ty op order p target) bits op order target (spot_of t l target) d
  value_of t l bits (T.Reduce' ty op p operand) d =
      message_by t l (T.Reduce' ty op p operand) ty bits
      (operand_by t l (reduced_bits op operand) (value_of t l (reduced_bits op operand) operand) true operand) d
  value_of t l bits (T.Casts' ty elems p operand) d =
      then_make (value_of t l bits operand d) (λ v after. in_register v (λ r. Makes v (casts_put elems.items r after)))
  value_of t l bits (T.ParallelCast' ty p operand) d =
      cast_from t l bits ty operand (truth_of t l operand) (λ n. value_of t l n operand) d
  value_of t l bits (T.Convert' ty p operand) d =
      if is_kept operand then register_cast_by ty.elem (value_of t l bits operand) d
      else cast_from t l bits ty operand (truth_of t l operand) (λ n. value_of t l n operand) d
  value_of t l bits (T.Promote' ty p operand) d = value_of t l bits operand d
  value_of t l bits (T.Variable ty x) d = read_by t l (T.Variable ty x) ty bits (λ between. Makes (variable_spot l ty x) between) d
  value_of t l bits (T.Element' ty place array p index) d =
      read_by t l (T.Element' ty place array p index) ty bits (element_spot t l ty place array (value_of t l 32 index)) d
  value_of t l bits (T.Number ty value) d = constant_in value d
  value_of t l bits (T.Dot ty axis) d = coordinate_in ty.shape bits axis d
  value_of t l bits (T.Brackets' ty p inner) d = value_of t l bits inner d
  value_of t l bits (T.Call' ty instance p arguments) d =
      then_make (fresh_for ty.shape bits d) (λ dest begun. call_to t l instance (values_of t l true (are_quiet arguments) arguments) dest begun)
  value_of t l bits (T.LeftIndex' ty place p indexes x of) d =
      index_read_by t l (T.LeftIndex' ty place p indexes x of) ty bits
      (indexed_spot t l (T.LeftIndex' ty place p indexes x of) (values_of t l false (are_quiet indexes) indexes)) d
  value_of t l bits (T.Pcoord ty axis) d = coordinate_in ty.shape bits axis d
  value_of t l bits (T.PositionsOf ty shape value) d = constant_in value d
  value_of t l bits (T.RankOf ty shape value) d = constant_in value d
  value_of t l bits (T.DimOf ty shape axis value) d = constant_in value d
  value_of t l bits (T.Scan' ty p source axis combiner direction mode bit within) d =
      message_by t l (T.Scan' ty p source axis combiner direction mode bit within) ty bits (operand_by t l 32 (value_of t l 32 source) true source) d
  value_of t l bits (T.Enumerate ty axis direction within mode bit) d =
      then_make (fresh_for ty.shape 32 d)
      (λ dest after. lowest bits (communicated t l (T.Enumerate ty axis direction within mode bit) O.Nothing [] dest after))
  value_of t l bits (T.Printf' ty pieces p arguments) d =
      then_make (values_of t l false (are_quiet arguments) arguments [] d) (λ given after. pieces_printed pieces.items given after)
  value_of t l bits (T.GetChar ty) d = byte_in d

  -- the test flags, of a value that has a truth without its value
  pub truth_of : Typed → Layout → TExpr → Test
  truth_of t l (T.Brackets' ty p inner) d = truth_of t l inner d
  truth_of t l (T.Variable ty x) d = then_make (field_of t l x 0 d) (λ source after. Makes tt (with_instr (I.NeZero source) after))
  truth_of t l (T.Binary' ty place op p left q right) d =
      relation_by (unwrap_or ty.shape 0) op
      (operand_by t l (bits_of (relation_kind left right)) (value_of t l (bits_of (relation_kind left right)) left) (is_quiet right) left) left
      (operand_by t l (bits_of (relation_kind left right)) (value_of t l (bits_of (relation_kind left right)) right) true right) right d
  truth_of t l (T.Unary' ty op p operand) d =
      zero_tested (operand_by t l (bits_of (kind_of operand)) (value_of t l (bits_of (kind_of operand)) operand) true operand) d
  truth_of t l _ d = Fails

  -- where a target or a reference is: its indexes, their range check, and the address
  pub spot_of : Typed → Layout → TExpr → Draft → Made Spot
  spot_of t l (T.Brackets' ty p inner) d = spot_of t l inner d
  spot_of t l (T.Variable ty x) d = Makes (variable_spot l ty x) d
  spot_of t l (T.Element' ty place array p index) d = element_spot t l ty place array (value_of t l 32 index) d
  spot_of t l (T.LeftIndex' ty place p indexes x of) d =
      indexed_spot t l (T.LeftIndex' ty place p indexes x of) (values_of t l false (are_quiet indexes) indexes) d
  spot_of t l _ d = Fails

  -- the values of a list of expressions, behind those that there are, each as long as its own type or of
  -- 32 bits; whether all are quiet is told
  pub values_of : {n : _} → Typed → Layout → Bool → Bool → Row_of-TExpr n → List Out → Draft → Made (List Out)
  values_of t l own quiet end_of-TExpr outs d = Makes outs d
  values_of t l own quiet (more_of-TExpr e rest) outs d =
      then_make (operand_by t l (list_bits own e) (value_of t l (list_bits own e) e) quiet e d)
      (λ v after. values_of t l own quiet rest (outs ++ v ∷ []) after)

-- the same of a list as it stands in memory
unfoldable pub values_in : Typed → Layout → Bool → Bool → List TExpr → List Out → Draft → Made (List Out)
values_in t l own quiet [] outs d = Makes outs d
values_in t l own quiet (e ∷ rest) outs d =
    then_make (operand_by t l (list_bits own e) (value_of t l (list_bits own e) e) quiet e d)
    (λ v after. values_in t l own quiet rest (outs ++ v ∷ []) after)

-- the operand of an instruction that is next, of which so many bits are wanted
abbrev pub next_of : Typed → Layout → ℕ → Bool → TExpr → Code
next_of t l bits quiet e = operand_by t l bits (value_of t l bits e) quiet e

-- an operand of `&&` or `||`, and the test flags of a value
abbrev pub condition_of : Typed → Layout → TExpr → Condition
condition_of t l e = condition_by t l (value_of t l (bits_of (kind_of e)) e) (truth_of t l e) e

abbrev pub tested : Typed → Layout → TExpr → Test
tested t l e = tested_by (has_truth e) (truth_of t l e) (next_of t l (bits_of (kind_of e)) true e)

-- `&&` or `||` of two fields of one bit
unfoldable pub joined_of : Typed → Layout → Bool → Field → TExpr → TExpr → Draft → Made Out
joined_of t l is_or dest left right d = joined_by is_or dest (condition_of t l left) (condition_of t l right) d

-- a conversion to a type
unfoldable pub cast_of : Typed → Layout → ℕ → ValueType → TExpr → Draft → Made Out
cast_of t l bits ty e d = cast_from t l bits ty e (truth_of t l e) (λ n. value_of t l n e) d

-- `?:` of these operands, into this register or field
unfoldable pub arm_of : Typed → Layout → ℕ → TExpr → Arm
arm_of t l bits e = arm_by (next_of t l bits true e) e

unfoldable pub scalar_choice_of : Typed → Layout → ValueType → ℕ → TExpr → TExpr → TExpr → Out → Draft → Made Out
scalar_choice_of t l ty bits test first second dest d =
    scalar_choice_by dest (next_of t l (bits_of (kind_of test)) true test) (arm_of t l bits first) (arm_of t l bits second)
    (arm_length_of t l ty bits first) (arm_length_of t l ty bits second) d

unfoldable pub parallel_choice_of : Typed → Layout → ℕ → TExpr → TExpr → TExpr → Out → Draft → Made Out
parallel_choice_of t l bits test first second dest d =
    parallel_choice_by dest (next_of t l (bits_of (kind_of test)) (is_quiet first) test) (arm_of t l bits first) (arm_of t l bits second) d

unfoldable pub choice_of : Typed → Layout → ValueType → ℕ → TExpr → TExpr → TExpr → Draft → Made Out
choice_of t l ty bits test first second d =
    choice_by ty bits (is_kept test) (next_of t l (bits_of (kind_of test)) (is_kept test || is_quiet first) test)
    (arm_of t l bits first) (arm_of t l bits second) (arm_length_of t l ty bits first) (arm_length_of t l ty bits second) d

-- a binary operator of these operands whose last instruction writes this register, or this field
unfoldable pub register_binary_of : Typed → Layout → ℕ → Op → Place → TExpr → TExpr → ℕ → Draft → Made Out
register_binary_of t l bits op place left right r d =
    registers_by op (is_signed (type_of left).elem) place r
    (next_of t l (operand_bits bits op left right) (is_quiet right) left) (next_of t l (operand_bits bits op left right) true right) d

unfoldable pub field_binary_of : Typed → Layout → ℕ → Op → Place → TExpr → TExpr → Field → Field → Draft → Made Out
field_binary_of t l bits op place left right f spare d =
    fields_by op (reads_signed op left right) place f spare
    (next_of t l (operand_bits bits op left right) (is_quiet right) left) left
    (next_of t l (operand_bits bits op left right) true right) right d

unfoldable pub binary_of : Typed → Layout → Option ℕ → ℕ → Op → Place → TExpr → TExpr → Draft → Made Out
binary_of t l shape bits op place left right d =
    binary_by shape bits op place (next_of t l (operand_bits bits op left right) (is_quiet right) left) left
    (next_of t l (operand_bits bits op left right) true right) right d

-- a call with these arguments, and `printf` with them
unfoldable pub call_of : Typed → Layout → ℕ → List TExpr → Out → Draft → Made Out
call_of t l instance arguments dest d = call_to t l instance (values_in t l true (all_quiet arguments) arguments) dest d

unfoldable pub print_of : Typed → Layout → List Piece → List TExpr → Draft → Made Out
print_of t l pieces arguments d =
    then_make (values_in t l false (all_quiet arguments) arguments [] d) (λ given after. pieces_printed pieces given after)

-- so many bits of the value of a parallel expression in a field, of that of a promoted scalar too
unfoldable pub spread_of : Typed → Layout → ℕ → TExpr → ℕ → Draft → Made Out
spread_of t l bits e set d = spread_by (value_of t l bits e) e set bits d

-- an expression of the instance that the unit is named after; a parallel value is in a field
unfoldable pub expression_of : Typed → List ℕ → TExpr → Draft → Made Out
expression_of t name e d =
    from (first_named 0 name t.instances.items) (λ n. elim (type_of e).shape [
      | None ↦ value_of t (layout_of t [] n) 32 e d
      | Some set ↦ spread_of t (layout_of t [] n) (type_of e).elem.bits e set d
    ])
