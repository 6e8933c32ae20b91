-- How many instructions an expression compiles to. Jumps are written once, since the lengths of
-- what they pass over are known beforehand.
use Rattle.std.specs.Prelude.{ℕ, zero, suc, ◌+◌, ◌-◌, Bool, true, false, not, ◌==◌, ◌&&◌, ◌||◌, nat_lt, if◌then◌else◌, List, [], ◌∷◌, length, slice_get, Option, Some, None, is_none, is_some}
use Rattle.cstar_base.specs.declared.elem.Elem.{Elem}
use Rattle.cstar_base.specs.declared.operators.Op.{Op}
use Rattle.cstar_base.specs.Operators.{divides}
use Rattle.cstar_tree.specs.declared.syntax.AssignOp.{AssignOp}
use Rattle.cstar_tree.specs.declared.syntax.AssignOp.TheVariants as A
use Rattle.cstar_tree.specs.declared.syntax.ReduceOp.{ReduceOp}
use Rattle.cstar_tree.specs.declared.syntax.ReduceOp.TheVariants as Rd
use Rattle.cstar_tree.specs.declared.typed.Instance.{Instance}
use Rattle.cstar_tree.specs.declared.typed.TExpr.{TExpr, Row_of-TExpr, end_of-TExpr, more_of-TExpr, items-the_row-TExpr}
use Rattle.cstar_tree.specs.declared.typed.TExpr as T
use Rattle.cstar_tree.specs.declared.typed.Typed.{Typed}
use Rattle.cstar_tree.specs.declared.typed.UnaryOp.{UnaryOp}
use Rattle.cstar_tree.specs.declared.typed.UnaryOp.TheVariants as Un
use Rattle.cstar_tree.specs.declared.typed.ValueType.{ValueType}
use Rattle.cstar_tree.specs.declared.typed.VarInfo.{VarInfo}
use Rattle.cstar_tree.specs.Typed.{type_of}
use Rattle.lower_base.specs.Kinds.{bits_of, fold_length, kind_of}
use Rattle.lower_comm.specs.declared.news.NewsStep.{NewsStep}
use Rattle.lower_base.specs.Constants.{word_length}
use Rattle.lower_base.specs.Layouts.{Layout, elements_of}
use Rattle.lower_comm.specs.News.{step_of, goes_by_news}
use Rattle.lower_base.specs.Operators.{assign_op_of, reduce_op_of, relates}
use Rattle.lower_expr.specs.Joined.{joins, flag_length}
use Rattle.lower_expr.specs.Kinds.{assigned_bits, done_as, list_bits, operand_bits, operator_bits, reduced_bits, relation_kind, unary_bits}
use Rattle.lower_expr.specs.Operands.{is_plus, is_quiet, are_quiet, operand_length}
use Rattle.lower_expr.specs.Positions.{known_position}
use Rattle.lower_expr.specs.Steps.{is_kept, has_truth, has_word, word_of, word_taken}

-- a conversion in place
unfoldable pub conversion_length : Bool → Elem → ℕ
conversion_length scalar elem =
    if elem.bits == 32 then 0 else (if scalar then 1 else (if elem.bits == 1 then 3 else 2))

-- the test flag as a value of so many bits
unfoldable pub test_put_length : ℕ → ℕ
test_put_length bits = if bits == 1 then 1 else 2

-- an operator before its operand
unfoldable pub unary_length : Layout → ℕ → UnaryOp → Bool → ℕ
unary_length l bits Un.Plus scalar = 0
unary_length l bits Un.Minus scalar = 1
unary_length l bits Un.Complement scalar = 1
unary_length l bits Un.Not scalar = if scalar then word_length l 0 + 1 else 1 + test_put_length bits

-- a binary operator with a result of so many bits, with the check of its divisor
unfoldable pub operate_length : ℕ → Op → Bool → ℕ
operate_length bits op scalar =
    if divides op then 2 else (if scalar then 1 else (if relates op then 1 + test_put_length bits else 1))

-- `&&` or `||`, by the lengths of its operands' codes and of their tests
unfoldable pub joined_length : ℕ → TExpr → TExpr → ℕ → ℕ → ℕ → ℕ → ℕ
joined_length bits left right n m left_tested right_tested =
    (flag_length n left_tested left + flag_length m right_tested right) + test_put_length bits

unfoldable pub parallel_logical_length : ℕ → TExpr → TExpr → ℕ → ℕ → ℕ → ℕ → ℕ
parallel_logical_length bits left right n m left_tested right_tested =
    if joins left right then joined_length bits left right n m left_tested right_tested
    else (if is_kept left then (n + right_tested) + (2 + test_put_length bits)
    else (left_tested + (if is_kept right then m else right_tested)) + 6)

unfoldable pub logical_length : Bool → ℕ → TExpr → TExpr → ℕ → ℕ → ℕ → ℕ → ℕ
logical_length scalar bits left right n m left_tested right_tested =
    if scalar then (n + m) + 4 else parallel_logical_length bits left right n m left_tested right_tested

-- an arm of `?:`, by the length of its value's code, and `?:` beside its condition and its arms
unfoldable pub arm_length : Bool → ℕ → TExpr → ℕ
arm_length scalar n e = if has_word scalar e then 1 else n + 1

unfoldable pub choice_length : Bool → ℕ
choice_length kept = if kept then 2 else 7

-- an expression of this length, with its value in a field
unfoldable pub spread_length : ℕ → TExpr → ℕ
spread_length n e = elim (word_of e) [ Some _ ↦ 1 | None ↦ n + (if is_kept e then 1 else 0) ]

-- the right operand of a parallel operation, and the operation
unfoldable pub spare_length : Op → Bool → ℕ
spare_length op kept = if kept && (relates op || divides op) then 1 else 0

unfoldable pub right_length : ℕ → ℕ → Op → TExpr → ℕ
right_length bits n op e = elim (word_taken op e) [
  | Some _ ↦ if relates op then 2 + test_put_length bits else 1
  | None ↦ n + (operate_length bits op false + spare_length op (is_kept e))
]

-- a binary operator and its operands, by their lengths
unfoldable pub binary_length : Bool → ℕ → Op → ℕ → TExpr → ℕ → TExpr → ℕ
binary_length scalar bits op n left m right =
    if scalar then (n + m) + operate_length bits op true else spread_length n left + right_length bits m op right

-- the moves of a get by NEWS, one for each axis with a step
unfoldable pub news_move : Option NewsStep → ℕ
news_move None = 0
news_move (Some step) = if step.by == 0 then 0 else 1

unfoldable pub is_checked : Option NewsStep → Bool
is_checked None = false
is_checked (Some step) = step.checked

unfoldable pub news_moves : ℕ → ℕ → List TExpr → ℕ
news_moves of axis [] = 0
news_moves of axis (e ∷ rest) = news_move (step_of of axis e) + news_moves of (axis + 1) rest

unfoldable pub news_checked : ℕ → ℕ → List TExpr → Bool
news_checked of axis [] = false
news_checked of axis (e ∷ rest) = is_checked (step_of of axis e) || news_checked of (axis + 1) rest

-- so many moves, and that of what was got, where the last of them does not go to the destination itself
unfoldable pub moves_length : ℕ → Elem → ℕ → ℕ
moves_length bits elem n = if not (n == 0) && not (nat_lt elem.bits bits) then n else n + 1

-- a get by NEWS: its moves and its check
unfoldable pub news_length : ℕ → ℕ → Elem → List TExpr → ℕ
news_length bits of elem indexes = moves_length bits elem (news_moves of 0 indexes) + (if news_checked of 0 indexes then 1 else 0)

-- a target without the brackets around it
unfoldable pub bare : TExpr → TExpr
bare (T.Brackets' ty p inner) = bare inner
bare e = e

-- is an assignment to the target a send
unfoldable pub is_sent : TExpr → Bool
is_sent (T.LeftIndex' ty place p indexes x of) = is_some ty.shape
is_sent _ = false

unfoldable pub is_send : TExpr → Bool
is_send target = is_sent (bare target)

-- so many elements of an array, from one on: for each its number, a test, a jump and a move
unfoldable pub elements_length : Layout → ℕ → ℕ → ℕ
elements_length l zero element = 0
elements_length l (suc more) element = (word_length l element + 3) + elements_length l more (element + 1)

-- the range check of the index of an array with so many elements
unfoldable pub index_check_length : Layout → ℕ → ℕ
index_check_length l elements = word_length l elements + 4

-- a read through a left index: of every position, or of one
unfoldable pub read_length : ℕ → ValueType → ℕ
read_length bits ty = if not (is_none ty.shape) && nat_lt ty.elem.bits bits then 2 else 1

-- what locates a left index, by the length of its indexes' codes: a position that is known stands in a
-- register, and else there are a check and the address
unfoldable pub located_length : Typed → Layout → TExpr → ℕ → ℕ
located_length t l e n = elim (known_position t e) [ Some position ↦ word_length l position | None ↦ 2 + n ]

-- what reads a located place, and what writes it; a send is counted with its assignment
unfoldable pub load_length_of : Typed → Layout → ℕ → TExpr → ℕ
load_length_of t l bits (T.Element' ty place array p index) = elements_length l (elements_of t l array) 0
load_length_of t l bits (T.LeftIndex' ty place p indexes x of) = read_length bits ty
load_length_of t l bits _ = 1

unfoldable pub store_length_of : Typed → Layout → TExpr → ℕ
store_length_of t l (T.Element' ty place array p index) = elements_length l (elements_of t l array) 0
store_length_of t l _ = 1

unfoldable pub load_length : Typed → Layout → ℕ → TExpr → ℕ
load_length t l bits target = load_length_of t l bits (bare target)

unfoldable pub store_length : Typed → Layout → TExpr → ℕ
store_length t l target = store_length_of t l (bare target)

-- the send itself: a difference is a sum of negatives
unfoldable pub send_length : AssignOp → ℕ
send_length A.Sub = 2
send_length _ = 1

-- an assignment, by the lengths of its target and of its value
unfoldable pub set_length : Bool → ℕ → ℕ → TExpr → ℕ
set_length scalar stored n e = stored + (if scalar then n else spread_length n e)

unfoldable pub compound_length : Bool → Elem → ℕ → Op → ℕ → TExpr → ℕ
compound_length true elem both op n e =
    if is_kept e then (both + (n + operate_length 32 op true)) + conversion_length true elem else (both + n) + (2 + fold_length op e)
compound_length false elem both op n e = (both + right_length 32 n op e) + conversion_length false elem

unfoldable pub assign_length : Typed → Layout → AssignOp → TExpr → ℕ → ℕ → TExpr → ℕ
assign_length t l op target there n e =
    if is_send target then (there + spread_length n e) + send_length op
    else elim (assign_op_of op) [
      | None ↦ set_length (is_none (type_of target).shape) (there + store_length t l target) n e
      | Some o ↦ compound_length (is_none (type_of target).shape) (type_of target).elem
          ((there + store_length t l target) + load_length t l 32 target) o (operand_length l (operator_bits o (type_of target).shape e) n true e) e
    ]

unfoldable pub step_once_length : Layout → Bool → ℕ
step_once_length l scalar = if scalar then word_length l 1 + 1 else 1

-- a step, by the length of its target
unfoldable pub step_length : Typed → Layout → TExpr → ℕ → ℕ
step_length t l target there =
    (there + (step_once_length l (is_none (type_of target).shape)
    + conversion_length (is_none (type_of target).shape) (type_of target).elem))
    + (load_length t l 32 target + store_length t l target)

-- a unary reduction beside its operand: the fold, and its negative behind `-=`
unfoldable pub negative_length : ReduceOp → ℕ
negative_length Rd.Sub = 1
negative_length _ = 0

unfoldable pub reduce_length : ReduceOp → TExpr → ℕ
reduce_length op operand = fold_length (reduce_op_of op) operand + negative_length op

-- a call beside its arguments: zeroing and copying, the turn, the call, and the result
unfoldable pub params_length : List VarInfo → ℕ → ℕ → ℕ
params_length [] given sum = sum
params_length (param ∷ rest) given sum =
    if given == 0 then sum else params_length rest (given - 1) (sum + (if is_some param.shape then 2 else 1))

unfoldable pub call_length : Option Instance → ℕ → ℕ
call_length None given = 0
call_length (Some callee) given = params_length callee.params.items given (if is_some callee.result then 4 else 2)

-- the right operand of a relation of fields, and the comparison
unfoldable pub compared_length : ℕ → Op → TExpr → ℕ
compared_length n op e = elim (word_taken op e) [ Some _ ↦ 2 | None ↦ n + (spare_length op (is_kept e) + 1) ]

-- a value as the test flags, by the length of its truth and of its code
unfoldable pub tested_by_length : ℕ → ℕ → TExpr → ℕ
tested_by_length truth n e = if has_truth e then truth else n + 1

-- a conversion of an expression, by the lengths of its truth and of its values of any bits
unfoldable pub cast_length : Layout → ℕ → Elem → TExpr → ℕ → (ℕ → ℕ) → ℕ
cast_length l bits elem e truth own =
    if elem.bits == 1 then
    tested_by_length truth (spread_length (operand_length l (bits_of (kind_of e)) (own (bits_of (kind_of e))) true e) e) e + test_put_length bits
    else if nat_lt elem.bits bits then spread_length (operand_length l elem.bits (own elem.bits) true e) e + 1
    else spread_length (own bits) e

unfoldable mutual
  -- so many bits of the value of an expression
  pub length_of : Typed → Layout → ℕ → TExpr → ℕ
  length_of t l bits (T.Assign' ty place op p target q value) =
      assign_length t l op target (spot_length_of t l target) (length_of t l (assigned_bits bits op (is_send target) (type_of target) value) value) value
  length_of t l bits (T.Choice' ty p test q first r second) =
      (operand_length l (bits_of (kind_of test)) (length_of t l (bits_of (kind_of test)) test) (is_kept test || is_quiet first) test
      + (arm_length (is_none ty.shape) (operand_length l bits (length_of t l bits first) true first) first
      + arm_length (is_none ty.shape) (operand_length l bits (length_of t l bits second) true second) second))
      + choice_length (is_kept test)
  length_of t l bits (T.LogicalOr' ty p left q right) =
      logical_length (is_none ty.shape) bits left right
      (operand_length l (bits_of (kind_of left)) (length_of t l (bits_of (kind_of left)) left) true left)
      (operand_length l (bits_of (kind_of right)) (length_of t l (bits_of (kind_of right)) right) true right)
      (tested_by_length (truth_length_of t l left) (operand_length l (bits_of (kind_of left)) (length_of t l (bits_of (kind_of left)) left) true left) left)
      (tested_by_length (truth_length_of t l right) (operand_length l (bits_of (kind_of right)) (length_of t l (bits_of (kind_of right)) right) true right) right)
  length_of t l bits (T.LogicalAnd' ty p left q right) =
      logical_length (is_none ty.shape) bits left right
      (operand_length l (bits_of (kind_of left)) (length_of t l (bits_of (kind_of left)) left) true left)
      (operand_length l (bits_of (kind_of right)) (length_of t l (bits_of (kind_of right)) right) true right)
      (tested_by_length (truth_length_of t l left) (operand_length l (bits_of (kind_of left)) (length_of t l (bits_of (kind_of left)) left) true left) left)
      (tested_by_length (truth_length_of t l right) (operand_length l (bits_of (kind_of right)) (length_of t l (bits_of (kind_of right)) right) true right) right)
  length_of t l bits (T.Binary' ty place op p left q right) =
      binary_length (is_none ty.shape) bits op
      (operand_length l (operand_bits bits op left right) (length_of t l (operand_bits bits op left right) left) (is_quiet right) left) left
      (operand_length l (operand_bits bits op left right) (length_of t l (operand_bits bits op left right) right) true right) right
  length_of t l bits (T.Unary' ty op p operand) =
      (if is_plus op then length_of t l bits operand
      else operand_length l (unary_bits bits op operand) (length_of t l (unary_bits bits op operand) operand) true operand)
      + unary_length l bits (done_as bits op operand) (is_kept operand)
  length_of t l bits (T.Step' ty op order p target) = step_length t l target (spot_length_of t l target)
  length_of t l bits (T.Reduce' ty op p operand) =
      operand_length l (reduced_bits op operand) (length_of t l (reduced_bits op operand) operand) true operand + reduce_length op operand
  length_of t l bits (T.Casts' ty elems p operand) = length_of t l bits operand + length elems.items
  length_of t l bits (T.ParallelCast' ty p operand) =
      cast_length l bits ty.elem operand (truth_length_of t l operand) (λ n. length_of t l n operand)
  length_of t l bits (T.Convert' ty p operand) =
      if is_kept operand then length_of t l bits operand + conversion_length true ty.elem
      else cast_length l bits ty.elem operand (truth_length_of t l operand) (λ n. length_of t l n operand)
  length_of t l bits (T.Promote' ty p operand) = length_of t l bits operand
  length_of t l bits (T.Variable ty x) = 1
  length_of t l bits (T.Element' ty place array p index) =
      (length_of t l 32 index + index_check_length l (elements_of t l array)) + elements_length l (elements_of t l array) 0
  length_of t l bits (T.Number ty value) = 1
  length_of t l bits (T.Dot ty axis) = 1
  length_of t l bits (T.Brackets' ty p inner) = length_of t l bits inner
  length_of t l bits (T.Call' ty instance p arguments) =
      call_length (slice_get t.instances.items instance) (length (items-the_row-TExpr _ arguments))
      + lengths_of t l true (are_quiet arguments) arguments
  length_of t l bits (T.LeftIndex' ty place p indexes x of) =
      if goes_by_news (T.LeftIndex' ty place p indexes x of) then news_length bits of ty.elem (items-the_row-TExpr _ indexes)
      else located_length t l (T.LeftIndex' ty place p indexes x of) (lengths_of t l false (are_quiet indexes) indexes) + read_length bits ty
  length_of t l bits (T.Pcoord ty axis) = 1
  length_of t l bits (T.PositionsOf ty shape value) = 1
  length_of t l bits (T.RankOf ty shape value) = 1
  length_of t l bits (T.DimOf ty shape axis value) = 1
  length_of t l bits (T.Scan' ty p source axis combiner direction mode bit _) = operand_length l 32 (length_of t l 32 source) true source + 1
  length_of t l bits (T.Enumerate ty axis direction _ mode bit) = 2
  length_of t l bits (T.Printf' ty pieces p arguments) = length pieces.items + lengths_of t l false (are_quiet arguments) arguments
  length_of t l bits (T.GetChar ty) = 1

  -- the test flags of a value that has a truth without its value
  pub truth_length_of : Typed → Layout → TExpr → ℕ
  truth_length_of t l (T.Brackets' ty p inner) = truth_length_of t l inner
  truth_length_of t l (T.Variable ty x) = 1
  truth_length_of t l (T.Binary' ty place op p left q right) =
      spread_length (operand_length l (bits_of (relation_kind left right)) (length_of t l (bits_of (relation_kind left right)) left) (is_quiet right) left) left
      + compared_length (operand_length l (bits_of (relation_kind left right)) (length_of t l (bits_of (relation_kind left right)) right) true right) op right
  truth_length_of t l (T.Unary' ty op p operand) =
      operand_length l (bits_of (kind_of operand)) (length_of t l (bits_of (kind_of operand)) operand) true operand + 1
  truth_length_of t l _ = 0

  -- what locates a target or a reference
  pub spot_length_of : Typed → Layout → TExpr → ℕ
  spot_length_of t l (T.Brackets' ty p inner) = spot_length_of t l inner
  spot_length_of t l (T.Element' ty place array p index) = length_of t l 32 index + index_check_length l (elements_of t l array)
  spot_length_of t l (T.LeftIndex' ty place p indexes x of) =
      located_length t l (T.LeftIndex' ty place p indexes x of) (lengths_of t l false (are_quiet indexes) indexes)
  spot_length_of t l _ = 0

  -- a list of expressions, each as long as its own type or of 32 bits; whether all are quiet is told
  pub lengths_of : {n : _} → Typed → Layout → Bool → Bool → Row_of-TExpr n → ℕ
  lengths_of t l own quiet end_of-TExpr = 0
  lengths_of t l own quiet (more_of-TExpr e rest) =
      operand_length l (list_bits own e) (length_of t l (list_bits own e) e) quiet e + lengths_of t l own quiet rest

-- the same of a list as it stands in memory
unfoldable pub lengths_in : Typed → Layout → Bool → Bool → List TExpr → ℕ
lengths_in t l own quiet [] = 0
lengths_in t l own quiet (e ∷ rest) =
    operand_length l (list_bits own e) (length_of t l (list_bits own e) e) quiet e + lengths_in t l own quiet rest

-- the operand of an instruction that is next, of which so many bits are wanted
abbrev pub used_length_of : Typed → Layout → ℕ → Bool → TExpr → ℕ
used_length_of t l bits quiet e = operand_length l bits (length_of t l bits e) quiet e

-- a parallel value as the test flags, `&&` or `||` of two fields of one bit, and an arm of `?:`
unfoldable pub tested_length : Typed → Layout → TExpr → ℕ
tested_length t l e = tested_by_length (truth_length_of t l e) (used_length_of t l (bits_of (kind_of e)) true e) e

unfoldable pub joined_length_of : Typed → Layout → ℕ → TExpr → TExpr → ℕ
joined_length_of t l bits left right =
    joined_length bits left right (used_length_of t l (bits_of (kind_of left)) true left) (used_length_of t l (bits_of (kind_of right)) true right)
    (tested_length t l left) (tested_length t l right)

unfoldable pub arm_length_of : Typed → Layout → ValueType → ℕ → TExpr → ℕ
arm_length_of t l ty bits e = arm_length (is_none ty.shape) (used_length_of t l bits true e) e
