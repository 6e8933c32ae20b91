-- The code of communication, over parts that stand in registers and fields already.
use Rattle.std.specs.Prelude.{ℕ, Bool, true, false, not, ◌+◌, ◌==◌, ◌&&◌, nat_lt, if◌then◌else◌, List, [], ◌∷◌, ◌++◌, length, map, slice_get, Option, Some, None}
use Rattle.cstar_base.specs.declared.elem.Elem.{Elem}
use Rattle.cstar_base.specs.declared.operators.Op.{Op}
use Rattle.cstar_base.specs.declared.operators.Place.{Place}
use Rattle.cstar_tree.specs.declared.syntax.ReduceOp.{ReduceOp}
use Rattle.cstar_tree.specs.declared.syntax.ReduceOp.TheVariants as R
use Rattle.cstar_tree.specs.declared.typed.TExpr.{TExpr, out-TExpr}
use Rattle.cstar_tree.specs.declared.typed.TExpr as T
use Rattle.cstar_tree.specs.declared.typed.TExpr.TheOpen.{TExpr-F}
use Rattle.cstar_tree.specs.declared.typed.Typed.{Typed}
use Rattle.cstar_tree.specs.declared.typed.Variable.{Variable}
use Rattle.cstar_tree.specs.Typed.{type_of}
use Rattle.paris_code.specs.declared.instr.Instr.TheVariants as I
use Rattle.paris_code.specs.declared.operands.Coordinate.{Coordinate}
use Rattle.paris_code.specs.declared.operands.Coordinate.TheVariants as C
use Rattle.paris_code.specs.declared.operands.Field.{Field}
use Rattle.paris_code.specs.declared.operands.GridStep.{GridStep}
use Rattle.paris_code.specs.declared.operands.Konst.TheVariants as K
use Rattle.paris_code.specs.declared.operands.Reduction.{Reduction}
use Rattle.paris_code.specs.declared.operands.Reduction.TheVariants as F
use Rattle.paris_code.specs.declared.operands.RegisterCoordinate.{RegisterCoordinate}
use Rattle.paris_code.specs.declared.operands.SignedCoordinate.{SignedCoordinate}
use Rattle.paris_code.specs.declared.program.Owner.TheVariants as W
use Rattle.lower_base.specs.declared.emit.Out.{Out}
use Rattle.lower_base.specs.declared.emit.Out.TheVariants as O
use Rattle.lower_comm.specs.declared.gets.Hop.{Hop}
use Rattle.lower_comm.specs.declared.messages.Line.{Line}
use Rattle.lower_comm.specs.declared.news.NewsStep.{NewsStep}
use Rattle.lower_base.specs.Drafts.{Draft, Made, Makes, Fails, then_make, from, with_instr, with_step, a_register, a_field, an_entry, first_bits, fresh_for, in_register, in_field, ChecksGrid, ChecksTarget, MakesAddress, FrontChecksTarget, FrontMakesAddress}
use Rattle.lower_base.specs.Layouts.{Layout, field_of, first_named, layout_of}
use Rattle.lower_base.specs.Kinds.{fold_by, fold_kind}
use Rattle.lower_comm.specs.News.{step_of}
use Rattle.lower_base.specs.Operators.{operation_of, assign_op_of, fold_of, reduce_op_of, scan_fold_of, is_signed}

-- the register of a scalar index, and the coordinate of a parallel one
unfoldable pub index_register : Out → ℕ
index_register (O.Scalar r) = r
index_register _ = 0

unfoldable pub index_coordinate : Out → Coordinate
index_coordinate (O.Scalar r) = C.Reg r
index_coordinate (O.Field f) = C.Field f
index_coordinate O.Nothing = C.Reg 0

-- what is checked of indexes, each read by the sign of its own type
unfoldable pub signed_registers : List TExpr → List ℕ → List RegisterCoordinate
signed_registers [] registers = []
signed_registers (index ∷ indexes) [] = []
signed_registers (index ∷ indexes) (r ∷ registers) =
    record { register = r; signed = is_signed (type_of index).elem } ∷ signed_registers indexes registers

unfoldable pub signed_coordinates : List TExpr → List Coordinate → List SignedCoordinate
signed_coordinates [] coordinates = []
signed_coordinates (index ∷ indexes) [] = []
signed_coordinates (index ∷ indexes) (c ∷ coordinates) =
    record { coordinate = c; signed = is_signed (type_of index).elem } ∷ signed_coordinates indexes coordinates

-- the check of indexes, and the making of the address from them
unfoldable pub front_located : Place → ℕ → List TExpr → List ℕ → ℕ → Draft → Draft
front_located place of indexes registers dest d =
    with_step (FrontMakesAddress dest of registers) (with_step (FrontChecksTarget of place (signed_registers indexes registers)) d)

unfoldable pub each_located : Place → ℕ → List TExpr → List Coordinate → Field → Draft → Draft
each_located place of indexes coordinates dest d =
    with_step (MakesAddress dest of coordinates) (with_step (ChecksTarget of place (signed_coordinates indexes coordinates)) d)

-- do all values stand in registers, and does each stand somewhere
unfoldable pub all_in_registers : List Out → Bool
all_in_registers [] = true
all_in_registers (O.Scalar r ∷ outs) = all_in_registers outs
all_in_registers (O.Field f ∷ outs) = false
all_in_registers (O.Nothing ∷ outs) = false

unfoldable pub all_somewhere : List Out → Bool
all_somewhere [] = true
all_somewhere (O.Scalar r ∷ outs) = all_somewhere outs
all_somewhere (O.Field f ∷ outs) = all_somewhere outs
all_somewhere (O.Nothing ∷ outs) = false

unfoldable pub located_at : Place → ℕ → List TExpr → List Out → Out → Draft → Made Out
located_at place of indexes outs (O.Scalar dest) d =
    if all_in_registers outs then Makes (O.Scalar dest) (front_located place of indexes (map index_register outs) dest d) else Fails
located_at place of indexes outs (O.Field dest) d =
    if all_somewhere outs then Makes (O.Field dest) (each_located place of indexes (map index_coordinate outs) dest d) else Fails
located_at place of indexes outs O.Nothing d = Fails

-- is the expression a left index
unfoldable pub is_left_index : TExpr → Bool
is_left_index (T.LeftIndex' ty place p indexes x of) = true
is_left_index _ = false

-- a left index with these values of its indexes, whose address goes there
unfoldable pub located : TExpr → List Out → Out → Draft → Made Out
located e outs at d =
    elim (out-TExpr e) [ TExpr-F.LeftIndex ty place indexes x of ↦ located_at place of indexes.items outs at d | _ ↦ Fails ]

-- the steps of a get by NEWS that may lead out of the grid, from this axis on
unfoldable pub checked_part : ℕ → Option NewsStep → List GridStep
checked_part axis None = []
checked_part axis (Some step) = if step.checked then record { axis = axis; step = K.Imm step.by } ∷ [] else []

unfoldable pub grid_steps : ℕ → ℕ → List TExpr → List GridStep
grid_steps of axis [] = []
grid_steps of axis (index ∷ indexes) = checked_part axis (step_of of axis index) ++ grid_steps of (axis + 1) indexes

-- the check of these steps, where there are any
unfoldable pub with_grid_check : ℕ → Place → List GridStep → Draft → Draft
with_grid_check set place [] d = d
with_grid_check set place (step ∷ steps) d = with_step (ChecksGrid set place (step ∷ steps)) d

-- a left index that goes by NEWS
unfoldable pub checked_grid : TExpr → Draft → Made Out
checked_grid e d =
    elim (out-TExpr e) [
      | TExpr-F.LeftIndex ty place indexes x of ↦
          let set : ℕ = elim ty.shape [ None ↦ of | Some s ↦ s ] in
          Makes O.Nothing (with_grid_check set place (grid_steps of 0 indexes.items) d)
      | _ ↦ Fails
    ]

-- the steps of a get by NEWS that are not 0, each with its axis, from this axis on
unfoldable pub moving_part : ℕ → Option NewsStep → List GridStep
moving_part axis None = []
moving_part axis (Some step) = if step.by == 0 then [] else record { axis = axis; step = K.Imm step.by } ∷ []

unfoldable pub moving_steps : ℕ → ℕ → List TExpr → List GridStep
moving_steps of axis [] = []
moving_steps of axis (index ∷ indexes) = moving_part axis (step_of of axis index) ++ moving_steps of (axis + 1) indexes

-- one step along an axis, from a field to the next one, and where the values are then
unfoldable pub with_hop : GridStep → Hop → Draft → Draft
with_hop step hop d = with_instr (I.GetFromNewsAlways hop.next hop.source step.axis step.step) d

unfoldable pub hopped : Hop → Hop
hopped hop = record { source = hop.next; next = hop.spare; spare = hop.next }

-- has the destination more bits than a variable, whose values are then extended to it
unfoldable pub is_extended : Elem → Field → Bool
is_extended elem dest = nat_lt elem.bits dest.len

-- what is read of a variable: all its bits, or as many of the lowest as the destination has
unfoldable pub bits_read : Elem → Field → Field → Field
bits_read elem dest source = if is_extended elem dest then source else first_bits dest.len source

-- steps, by turns into one field and into another, at every processor, and then what was got becomes the
-- value of the destination; the last step goes there itself where the values need no more bits
unfoldable pub stepwise : Elem → Field → List GridStep → Hop → Draft → Draft
stepwise elem dest [] hop d = with_instr (I.Move elem.signed dest hop.source) d
stepwise elem dest (step ∷ steps) hop d =
    if length steps == 0 && not (is_extended elem dest) then with_instr (I.GetFromNews dest hop.source step.axis step.step) d
    else stepwise elem dest steps (hopped hop) (with_hop step hop d)

-- a get by NEWS, with two fresh fields to go through
unfoldable pub gotten_by_steps : ℕ → List TExpr → Elem → Field → Field → Draft → Made Out
gotten_by_steps of indexes elem source dest d =
    let read : Field = bits_read elem dest source in
    then_make (an_entry dest.set read.len W.Own d)
    (λ one b. then_make (an_entry dest.set read.len W.Own b)
    (λ other c. Makes (O.Field dest) (stepwise elem dest (moving_steps of 0 indexes) (record { source = read; next = one; spare = other }) c)))

-- a read through a left index: of one element, by the router (straight to the destination, where the
-- values need no more bits), or by NEWS
unfoldable pub read_at : ℕ → List TExpr → Elem → Field → Out → Out → Draft → Made Out
read_at of indexes elem source (O.Scalar processor) into d =
    in_register into (λ dest. Makes into (with_instr (I.ReadFromProcessor elem.signed dest processor source) d))
read_at of indexes elem source (O.Field to) into d =
    in_field into (λ dest. if is_extended elem dest then then_make (an_entry dest.set source.len W.Own d)
    (λ got after. Makes into (with_instr (I.Move elem.signed dest got) (with_instr (I.Get got to source) after)))
    else Makes into (with_instr (I.Get dest to (first_bits dest.len source)) d))
read_at of indexes elem source O.Nothing into d = in_field into (λ dest. gotten_by_steps of indexes elem source dest d)

-- the parts of a communication that stand in a register, and in a field
unfoldable pub part_register : {B : Type 0} → List Out → ℕ → (ℕ → Made B) → Made B
part_register parts k next = from (slice_get parts k) (λ out. in_register out next)

unfoldable pub part_field : {B : Type 0} → List Out → ℕ → (Field → Made B) → Made B
part_field parts k next = from (slice_get parts k) (λ out. in_field out next)

-- the fold of the values of an expression, at their own length: where a type with a sign was folded
-- without it, that is put back
unfoldable pub with_sign : Option Elem → ℕ → Draft → Draft
with_sign None dest d = d
with_sign (Some kind) dest d = with_instr (I.FrontConvert dest dest kind) d

unfoldable pub with_fold : Op → TExpr → ℕ → Field → Draft → Draft
with_fold op e dest source d = with_sign (fold_kind op e) dest (with_instr (I.Global (fold_by op e) dest source) d)

-- `s op= p`: the fold of the elements, then the operator on the old value and it, and then the
-- conversion to the type of `s`
unfoldable pub folded_onto : Option Op → TExpr → Elem → List Out → Out → Draft → Made Out
folded_onto op value elem parts into d =
    let o : Op = elim op [ None ↦ Op.Add | Some given ↦ given ] in
    part_field parts 0 (λ source. part_register parts 1 (λ old. in_register into (λ dest. then_make (a_register d) (λ folded after.
    Makes into (with_instr (I.FrontConvert dest dest elem)
    (with_instr (I.FrontOperate (operation_of o (is_signed (type_of value).elem)) dest old folded) (with_fold o value folded source after)))))))

-- the negative of a register, behind `-=`
unfoldable pub negated_by : ReduceOp → ℕ → Draft → Draft
negated_by R.Sub dest d = with_instr (I.FrontNegate dest dest) d
negated_by _ dest d = d

-- a unary reduction; with `-=` it is the negative of the sum
unfoldable pub reduced : ReduceOp → TExpr → List Out → Out → Draft → Made Out
reduced op operand parts into d =
    part_field parts 0 (λ source. in_register into (λ dest.
    Makes into (negated_by op dest (with_fold (reduce_op_of op) operand dest source d))))

-- the variable that a left index is before, maybe in brackets, and its field
unfoldable pub indexed : TExpr → Option Variable
indexed (T.Brackets' ty p inner) = indexed inner
indexed (T.LeftIndex' ty place p indexes x of) = Some x
indexed _ = None

unfoldable pub indexed_field : Typed → Layout → TExpr → Draft → Made Field
indexed_field t l e d = from (indexed e) (λ x. field_of t l x 0 d)

-- a store to one element
unfoldable pub stored : Typed → Layout → TExpr → ℕ → List Out → Draft → Made Out
stored t l target processor parts d =
    then_make (indexed_field t l target d) (λ dest after. part_register parts 0
    (λ value. Makes O.Nothing (with_instr (I.WriteToProcessor dest processor (K.Reg value)) after)))

-- what is sent with a combiner: what is to be subtracted is added as its negative
unfoldable pub sent_value : Op → Field → Draft → Made Field
sent_value Op.Sub value d = then_make (a_field value.set 32 d) (λ source after. Makes source (with_instr (I.Negate source value) after))
sent_value _ value d = Makes value d

-- a send to a field: without a combiner of a value of its length, else of 32 bits
unfoldable pub sent_to : Option Op → Bool → Elem → Field → Field → Field → Draft → Made Out
sent_to None signed kind dest to value d =
    Makes O.Nothing (with_instr (I.SendWithOverwrite dest kind to value) d)
sent_to (Some op) signed kind dest to value d =
    then_make (sent_value op value d)
    (λ source after. Makes O.Nothing (with_instr (I.SendWithCombiner (fold_of op signed) dest kind to source) after))

unfoldable pub sent : Typed → Layout → TExpr → Option Op → Bool → Field → List Out → Draft → Made Out
sent t l target op signed to parts d =
    then_make (indexed_field t l target d)
    (λ dest after. part_field parts 0 (λ value. sent_to op signed (type_of target).elem dest to value after))

-- an assignment: a fold onto a scalar, a store to one element, or a send
unfoldable pub assigned : Typed → Layout → TExpr → Option Op → TExpr → Out → List Out → Out → Draft → Made Out
assigned t l target op value O.Nothing parts into d = folded_onto op value (type_of target).elem parts into d
assigned t l target op value (O.Scalar processor) parts into d = stored t l target processor parts d
assigned t l target op value (O.Field to) parts into d = sent t l target op (is_signed (type_of value).elem) to parts d

-- a scan along its lines
unfoldable pub scanned : Reduction → Field → Line → Option Field → Out → Draft → Made Out
scanned combiner source line bit into d =
    in_field into (λ dest. Makes into (with_instr (I.Scan combiner dest source line.axis line.direction line.mode bit line.inclusion) d))

-- the field of a scan's segment bits, where it has any
unfoldable pub segment_field : Typed → Layout → Option Variable → Draft → Made (Option Field)
segment_field t l None d = Makes None d
segment_field t l (Some x) d = then_make (field_of t l x 0 d) (λ f after. Makes (Some f) after)

-- an enumeration, which is a scan of ones
unfoldable pub enumerated : Typed → Layout → Line → Option Variable → Out → Draft → Made Out
enumerated t l line bit into d =
    in_field into (λ dest. then_make (a_field dest.set 32 d) (λ ones b. then_make
    (segment_field t l bit (with_instr (I.MoveConstant ones (K.Imm 1)) b))
    (λ bits after. scanned F.SAdd ones line bits into after)))

-- one communication, through the left index that was located there
unfoldable pub communicated : Typed → Layout → TExpr → Out → List Out → Out → Draft → Made Out
communicated t l e at parts into d =
    elim (out-TExpr e) [
      | TExpr-F.LeftIndex ty place indexes x of ↦
          then_make (field_of t l x 0 d) (λ source after. read_at of indexes.items ty.elem source at into after)
      | TExpr-F.Assign ty place op target value ↦
          assigned t l target.value (assign_op_of op) value.value at parts into d
      | TExpr-F.Step ty op order target ↦ in_register at (λ processor. stored t l target.value processor parts d)
      | TExpr-F.Reduce ty op operand ↦ reduced op operand.value parts into d
      | TExpr-F.Scan ty source axis combiner direction mode bit inclusion ↦
          let line : Line = record { axis = axis; direction = direction; mode = mode; inclusion = inclusion } in
          part_field parts 0 (λ values. then_make (segment_field t l bit d)
          (λ bits after. scanned (scan_fold_of combiner (is_signed (type_of source.value).elem)) values line bits into after))
      | TExpr-F.Enumerate ty axis direction inclusion mode bit ↦
          enumerated t l (record { axis = axis; direction = direction; mode = mode; inclusion = inclusion }) bit into d
      | _ ↦ Fails
    ]

-- a left index with the values of its indexes; a get by NEWS has none
unfoldable pub reached : TExpr → List Out → Draft → Made Out
reached e [] d = checked_grid e d
reached e (out ∷ outs) d = then_make (fresh_for (type_of e).shape 32 d) (λ at after. located e (out ∷ outs) at after)

-- one communication, as the first instance of this name sees the variables
unfoldable pub communicated_by : Typed → List ℕ → TExpr → Out → List Out → Out → Draft → Made Out
communicated_by t name e at parts into d =
    from (first_named 0 name t.instances.items) (λ n. communicated t (layout_of t [] n) e at parts into d)
