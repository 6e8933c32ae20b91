-- The room of an expression, by its form.
use Rattle.std.proofs.Common.{◌≡◌, ℕ, Bool, false, true, Option, [], ◌∷◌, map, max, sym, ap, ◌∙◌, Vec, Box, arith, if◌then◌else◌, is_some, ◌⊎◌, inl, inr}
use Rattle.std.proofs.lemmas.Bool.Decides.{nat_tests}
use Rattle.std.specs.declared.alloc.Global.{Global}
use denote.Hole.Carrier
use Rattle.cstar_base.specs.declared.elem.Elem.{Elem}
use Rattle.cstar_base.specs.declared.operators.Combiner.{Combiner}
use Rattle.cstar_base.specs.declared.operators.Direction.{Direction}
use Rattle.cstar_base.specs.declared.operators.Inclusion.{Inclusion}
use Rattle.cstar_base.specs.declared.operators.Op.{Op}
use Rattle.cstar_base.specs.declared.operators.Place.{Place}
use Rattle.cstar_base.specs.declared.operators.SegmentMode.{SegmentMode}
use Rattle.cstar_tree.specs.declared.syntax.AssignOp.{AssignOp}
use Rattle.cstar_tree.specs.declared.syntax.ReduceOp.{ReduceOp}
use Rattle.cstar_tree.specs.declared.syntax.StepOp.{StepOp}
use Rattle.cstar_tree.specs.declared.typed.Piece.{Piece}
use Rattle.cstar_tree.specs.declared.typed.StepOrder.{StepOrder}
use Rattle.cstar_tree.specs.declared.typed.UnaryOp.{UnaryOp}
use Rattle.cstar_tree.specs.declared.typed.ValueType.{ValueType}
use Rattle.cstar_tree.specs.declared.typed.Variable.{Variable}
use Rattle.cstar_tree.specs.declared.typed.TExpr.{TExpr, map-TExpr, out-TExpr, out-roll-TExpr, roll-TExpr, roll-out-TExpr}
use Rattle.cstar_tree.specs.declared.typed.TExpr as T
use Rattle.cstar_tree.specs.declared.typed.TExpr.TheFolds.{fold-roll-TExpr, fold_out-TExpr}
use Rattle.cstar_tree.specs.declared.typed.TExpr.TheOpen.{TExpr-F}
use Rattle.cstar_tree.specs.declared.typed.TExpr.TheVariants.{rolls-Assign, rolls-Binary, rolls-Brackets, rolls-Call, rolls-Casts, rolls-Choice, rolls-Convert, rolls-DimOf, rolls-Dot, rolls-Element, rolls-Enumerate, rolls-GetChar, rolls-LeftIndex, rolls-LogicalAnd, rolls-LogicalOr, rolls-Number, rolls-ParallelCast, rolls-Pcoord, rolls-PositionsOf, rolls-Printf, rolls-Promote, rolls-RankOf, rolls-Reduce, rolls-Scan, rolls-Step, rolls-Unary, rolls-Variable}
use Rattle.cstar_tree.specs.Room.{beside, greatest_part, of_shape}
use Rattle.cstar_tree.specs.Typed.{type_of}
use Rattle.shape_room.specs.RoomInParts.{RoomInParts, joined, parts_room, parts_step, room_as, room_of, sends_to, value_bits}

-- an expression that is rolled of a node has the room of the node
by_node : (shape : ℕ) (x : TExpr-F TExpr) {e : TExpr} → roll-TExpr x ≡ e → room_of shape e ≡ parts_step shape (map-TExpr TExpr RoomInParts (room_of shape) x)
unfolding room_of
by_node shape x is = ap (room_of shape) (sym is) ∙ fold-roll-TExpr RoomInParts (parts_step shape) x

parts_by : (shape : ℕ) (t : Bool) (x : TExpr-F TExpr) {e : TExpr} → roll-TExpr x ≡ e → (room_of shape e).parts t ≡ parts_room t (map-TExpr TExpr RoomInParts (room_of shape) x)
unfolding parts_step
parts_by shape t x is = ap (λ (r : RoomInParts). r.parts t) (by_node shape x is)

-- ---- the greatest part of few

first_part : (room : ℕ) → beside 0 room ≡ room
unfolding beside
first_part room = grind (arith, nat_tests)

pub alone : (a : RoomInParts) → greatest_part 0 (joined a ∷ []) ≡ room_as false a
unfolding greatest_part
alone a = omega (arith, first_part (room_as false a))

pair : (a b : RoomInParts) → greatest_part 0 (joined a ∷ joined b ∷ []) ≡ max (room_as false a) (beside 1 (room_as false b))
unfolding greatest_part
pair a b = omega (arith, first_part (room_as false a))

triple : (a b c : RoomInParts) → greatest_part 0 (joined a ∷ joined b ∷ joined c ∷ []) ≡ max (max (room_as false a) (beside 1 (room_as false b))) (beside 2 (room_as false c))
unfolding greatest_part
triple a b c = omega (arith, first_part (room_as false a))

-- ---- the room of the parts, by the form

abbrev pub IsPair : TExpr → Box TExpr Global → Box TExpr Global → Type 0
IsPair e left right =
    ((ty : ValueType) × e ≡ T.LogicalOr ty left right)
    ⊎ (((ty : ValueType) × e ≡ T.LogicalAnd ty left right)
    ⊎ ((ty : ValueType) × (place : Place) × (op : Op) × e ≡ T.Binary ty place op left right))

pub pair_parts : (shape : ℕ) (t : Bool) (e : TExpr) (left : Box TExpr Global) (right : Box TExpr Global) → IsPair e left right → (room_of shape e).parts t ≡ max (room_as false (room_of shape left.value)) (beside 1 (room_as false (room_of shape right.value)))
unfolding parts_step parts_room greatest_part
pair_parts shape t e left right (inl (ty, is)) = parts_by shape t (TExpr-F.LogicalOr ty left right) (rolls-LogicalOr ty left right ∙ sym is) ∙ pair (room_of shape left.value) (room_of shape right.value)
pair_parts shape t e left right (inr (inl (ty, is))) = parts_by shape t (TExpr-F.LogicalAnd ty left right) (rolls-LogicalAnd ty left right ∙ sym is) ∙ pair (room_of shape left.value) (room_of shape right.value)
pair_parts shape t e left right (inr (inr (ty, place, op, is))) = parts_by shape t (TExpr-F.Binary ty place op left right) (rolls-Binary ty place op left right ∙ sym is) ∙ pair (room_of shape left.value) (room_of shape right.value)

abbrev pub HasOperand : TExpr → Box TExpr Global → Type 0
HasOperand e operand =
    ((ty : ValueType) × (op : UnaryOp) × e ≡ T.Unary ty op operand)
    ⊎ (((ty : ValueType) × (op : ReduceOp) × e ≡ T.Reduce ty op operand)
    ⊎ (((ty : ValueType) × (elems : Vec Elem Global) × e ≡ T.Casts ty elems operand)
    ⊎ (((ty : ValueType) × e ≡ T.ParallelCast ty operand)
    ⊎ (((ty : ValueType) × e ≡ T.Convert ty operand)
    ⊎ (((ty : ValueType) × e ≡ T.Promote ty operand)
    ⊎ (((ty : ValueType) × (place : Place) × (array : Variable) × e ≡ T.Element ty place array operand)
    ⊎ ((ty : ValueType) × (axis : ℕ) × (combiner : Combiner) × (direction : Direction) × (mode : SegmentMode) × (bit : Option Variable) × (inclusion : Inclusion) × e ≡ T.Scan ty operand axis combiner direction mode bit inclusion)))))))

pub operand_parts : (shape : ℕ) (t : Bool) (e : TExpr) (operand : Box TExpr Global) → HasOperand e operand → (room_of shape e).parts t ≡ room_as false (room_of shape operand.value)
unfolding parts_step parts_room greatest_part
operand_parts shape t e operand (inl (ty, op, is)) = parts_by shape t (TExpr-F.Unary ty op operand) (rolls-Unary ty op operand ∙ sym is) ∙ alone (room_of shape operand.value)
operand_parts shape t e operand (inr (inl (ty, op, is))) = parts_by shape t (TExpr-F.Reduce ty op operand) (rolls-Reduce ty op operand ∙ sym is) ∙ alone (room_of shape operand.value)
operand_parts shape t e operand (inr (inr (inl (ty, elems, is)))) = parts_by shape t (TExpr-F.Casts ty elems operand) (rolls-Casts ty elems operand ∙ sym is) ∙ alone (room_of shape operand.value)
operand_parts shape t e operand (inr (inr (inr (inl (ty, is))))) = parts_by shape t (TExpr-F.ParallelCast ty operand) (rolls-ParallelCast ty operand ∙ sym is) ∙ alone (room_of shape operand.value)
operand_parts shape t e operand (inr (inr (inr (inr (inl (ty, is)))))) = parts_by shape t (TExpr-F.Convert ty operand) (rolls-Convert ty operand ∙ sym is) ∙ alone (room_of shape operand.value)
operand_parts shape t e operand (inr (inr (inr (inr (inr (inl (ty, is))))))) = parts_by shape t (TExpr-F.Promote ty operand) (rolls-Promote ty operand ∙ sym is) ∙ alone (room_of shape operand.value)
operand_parts shape t e operand (inr (inr (inr (inr (inr (inr (inl (ty, place, array, is)))))))) = parts_by shape t (TExpr-F.Element ty place array operand) (rolls-Element ty place array operand ∙ sym is) ∙ alone (room_of shape operand.value)
operand_parts shape t e operand (inr (inr (inr (inr (inr (inr (inr (ty, axis, combiner, direction, mode, bit, inclusion, is)))))))) = parts_by shape t (TExpr-F.Scan ty operand axis combiner direction mode bit inclusion) (rolls-Scan ty operand axis combiner direction mode bit inclusion ∙ sym is) ∙ alone (room_of shape operand.value)

abbrev IsList : TExpr → Vec TExpr Global → Type 0
IsList e parts =
    ((ty : ValueType) × (instance : ℕ) × e ≡ T.Call ty instance parts)
    ⊎ (((ty : ValueType) × (place : Place) × (variable : Variable) × (of : ℕ) × e ≡ T.LeftIndex ty place parts variable of)
    ⊎ ((ty : ValueType) × (pieces : Vec Piece Global) × e ≡ T.Printf ty pieces parts))

pub list_parts : (shape : ℕ) (t : Bool) (e : TExpr) (parts : Vec TExpr Global) → IsList e parts → (room_of shape e).parts t ≡ greatest_part 0 (map joined (map (room_of shape) parts.items))
unfolding parts_step parts_room greatest_part
list_parts shape t e parts (inl (ty, instance, is)) = parts_by shape t (TExpr-F.Call ty instance parts) (rolls-Call ty instance parts ∙ sym is)
list_parts shape t e parts (inr (inl (ty, place, variable, of, is))) = parts_by shape t (TExpr-F.LeftIndex ty place parts variable of) (rolls-LeftIndex ty place parts variable of ∙ sym is)
list_parts shape t e parts (inr (inr (ty, pieces, is))) = parts_by shape t (TExpr-F.Printf ty pieces parts) (rolls-Printf ty pieces parts ∙ sym is)

abbrev pub IsLeaf : TExpr → Type 0
IsLeaf e =
    ((ty : ValueType) × (variable : Variable) × e ≡ T.Variable ty variable)
    ⊎ (((ty : ValueType) × (value : ℕ) × e ≡ T.Number ty value)
    ⊎ (((ty : ValueType) × (axis : ℕ) × e ≡ T.Dot ty axis)
    ⊎ (((ty : ValueType) × (axis : ℕ) × e ≡ T.Pcoord ty axis)
    ⊎ (((ty : ValueType) × (of : ℕ) × (value : ℕ) × e ≡ T.PositionsOf ty of value)
    ⊎ (((ty : ValueType) × (of : ℕ) × (value : ℕ) × e ≡ T.RankOf ty of value)
    ⊎ (((ty : ValueType) × (of : ℕ) × (axis : ℕ) × (value : ℕ) × e ≡ T.DimOf ty of axis value)
    ⊎ (((ty : ValueType) × (axis : ℕ) × (direction : Direction) × (inclusion : Inclusion) × (mode : SegmentMode) × (bit : Option Variable) × e ≡ T.Enumerate ty axis direction inclusion mode bit)
    ⊎ ((ty : ValueType) × e ≡ T.GetChar ty))))))))

pub leaf_parts : (shape : ℕ) (t : Bool) (e : TExpr) → IsLeaf e → (room_of shape e).parts t ≡ 0
unfolding parts_step parts_room greatest_part
leaf_parts shape t e (inl (ty, variable, is)) = parts_by shape t (TExpr-F.Variable ty variable) (rolls-Variable ty variable ∙ sym is)
leaf_parts shape t e (inr (inl (ty, value, is))) = parts_by shape t (TExpr-F.Number ty value) (rolls-Number ty value ∙ sym is)
leaf_parts shape t e (inr (inr (inl (ty, axis, is)))) = parts_by shape t (TExpr-F.Dot ty axis) (rolls-Dot ty axis ∙ sym is)
leaf_parts shape t e (inr (inr (inr (inl (ty, axis, is))))) = parts_by shape t (TExpr-F.Pcoord ty axis) (rolls-Pcoord ty axis ∙ sym is)
leaf_parts shape t e (inr (inr (inr (inr (inl (ty, of, value, is)))))) = parts_by shape t (TExpr-F.PositionsOf ty of value) (rolls-PositionsOf ty of value ∙ sym is)
leaf_parts shape t e (inr (inr (inr (inr (inr (inl (ty, of, value, is))))))) = parts_by shape t (TExpr-F.RankOf ty of value) (rolls-RankOf ty of value ∙ sym is)
leaf_parts shape t e (inr (inr (inr (inr (inr (inr (inl (ty, of, axis, value, is)))))))) = parts_by shape t (TExpr-F.DimOf ty of axis value) (rolls-DimOf ty of axis value ∙ sym is)
leaf_parts shape t e (inr (inr (inr (inr (inr (inr (inr (inl (ty, axis, direction, inclusion, mode, bit, is))))))))) = parts_by shape t (TExpr-F.Enumerate ty axis direction inclusion mode bit) (rolls-Enumerate ty axis direction inclusion mode bit ∙ sym is)
leaf_parts shape t e (inr (inr (inr (inr (inr (inr (inr (inr (ty, is))))))))) = parts_by shape t (TExpr-F.GetChar ty) (rolls-GetChar ty ∙ sym is)

pub assign_parts : (shape : ℕ) (t : Bool) (e : TExpr) (ty : ValueType) (place : Place) (op : AssignOp) (target : Box TExpr Global) (value : Box TExpr Global) → e ≡ T.Assign ty place op target value → (room_of shape e).parts t ≡ max (room_as true (room_of shape target.value)) (beside 1 (room_as false (room_of shape value.value)))
unfolding parts_step parts_room
assign_parts shape t e ty place op target value is = parts_by shape t (TExpr-F.Assign ty place op target value) (rolls-Assign ty place op target value ∙ sym is)

pub choice_parts : (shape : ℕ) (t : Bool) (e : TExpr) (ty : ValueType) (test : Box TExpr Global) (second : Box TExpr Global) (third : Box TExpr Global) → e ≡ T.Choice ty test second third → (room_of shape e).parts t ≡ max (max (room_as false (room_of shape test.value)) (beside 1 (room_as false (room_of shape second.value)))) (beside 2 (room_as false (room_of shape third.value)))
unfolding parts_step parts_room
choice_parts shape t e ty test second third is = parts_by shape t (TExpr-F.Choice ty test second third) (rolls-Choice ty test second third ∙ sym is) ∙ triple (room_of shape test.value) (room_of shape second.value) (room_of shape third.value)

pub step_parts : (shape : ℕ) (t : Bool) (e : TExpr) (ty : ValueType) (op : StepOp) (order : StepOrder) (target : Box TExpr Global) → e ≡ T.Step ty op order target → (room_of shape e).parts t ≡ room_as true (room_of shape target.value)
unfolding parts_step parts_room
step_parts shape t e ty op order target is = parts_by shape t (TExpr-F.Step ty op order target) (rolls-Step ty op order target ∙ sym is)

pub brackets_parts : (shape : ℕ) (t : Bool) (e : TExpr) (ty : ValueType) (inner : Box TExpr Global) → e ≡ T.Brackets ty inner → (room_of shape e).parts t ≡ room_as t (room_of shape inner.value)
unfolding parts_step parts_room
brackets_parts shape t e ty inner is = parts_by shape t (TExpr-F.Brackets ty inner) (rolls-Brackets ty inner ∙ sym is)

-- ---- the targets of sends

sends_by : (shape : ℕ) (x : TExpr-F TExpr) {e : TExpr} → roll-TExpr x ≡ e → (room_of shape e).sends ≡ sends_to (map-TExpr TExpr RoomInParts (room_of shape) x)
unfolding parts_step
sends_by shape x is = ap (λ (r : RoomInParts). r.sends) (by_node shape x is)

pub sends_brackets : (shape : ℕ) (e : TExpr) (ty : ValueType) (inner : Box TExpr Global) → e ≡ T.Brackets ty inner → (room_of shape e).sends ≡ (room_of shape inner.value).sends
unfolding sends_to
sends_brackets shape e ty inner is = sends_by shape (TExpr-F.Brackets ty inner) (rolls-Brackets ty inner ∙ sym is)

pub sends_left_index : (shape : ℕ) (e : TExpr) (ty : ValueType) (place : Place) (indexes : Vec TExpr Global) (variable : Variable) (of : ℕ) → e ≡ T.LeftIndex ty place indexes variable of → (room_of shape e).sends ≡ is_some ty.shape
unfolding sends_to
sends_left_index shape e ty place indexes variable of is = sends_by shape (TExpr-F.LeftIndex ty place indexes variable of) (rolls-LeftIndex ty place indexes variable of ∙ sym is)

abbrev NotBrackets : TExpr → Type 0
NotBrackets e = (ty : ValueType) (inner : Box TExpr Global) → e ≡ T.Brackets ty inner → ⊥

abbrev NotLeftIndex : TExpr → Type 0
NotLeftIndex e = (ty : ValueType) (place : Place) (indexes : Vec TExpr Global) (variable : Variable) (of : ℕ) → e ≡ T.LeftIndex ty place indexes variable of → ⊥

other_sends : (shape : ℕ) (x : TExpr-F TExpr) (e : TExpr) → roll-TExpr x ≡ e → NotBrackets e → NotLeftIndex e → (room_of shape e).sends ≡ false
unfolding sends_to
other_sends shape (TExpr-F.Brackets ty inner) e is not_brackets not_index = absurd (not_brackets ty inner (sym is ∙ rolls-Brackets ty inner))
other_sends shape (TExpr-F.LeftIndex ty place indexes variable of) e is not_brackets not_index = absurd (not_index ty place indexes variable of (sym is ∙ rolls-LeftIndex ty place indexes variable of))
other_sends shape x e is not_brackets not_index = sends_by shape x is

pub sends_other : (shape : ℕ) (e : TExpr) → NotBrackets e → NotLeftIndex e → (room_of shape e).sends ≡ false
sends_other shape e not_brackets not_index = other_sends shape (out-TExpr e) e (roll-out-TExpr e) not_brackets not_index

-- ---- the bits of the value

own_of : (shape : ℕ) (t : Bool) (e : TExpr) → (room_of shape e).own t ≡ of_shape shape (type_of e).shape (value_bits t (map-TExpr TExpr RoomInParts (room_of shape) (out-TExpr e)))
unfolding room_of parts_step out-TExpr Carrier.out
own_of shape t (T.GetChar ty) = ap (λ (r : RoomInParts). r.own t) (fold_out-TExpr RoomInParts (parts_step shape) (T.GetChar ty))
own_of shape t e = ap (λ (r : RoomInParts). r.own t) (fold_out-TExpr RoomInParts (parts_step shape) e)

own_by : (shape : ℕ) (t : Bool) (x : TExpr-F TExpr) {e : TExpr} → roll-TExpr x ≡ e → (room_of shape e).own t ≡ of_shape shape (type_of e).shape (value_bits t (map-TExpr TExpr RoomInParts (room_of shape) x))
own_by shape t x {e} is = own_of shape t e ∙ ap (λ (y : TExpr-F TExpr). of_shape shape (type_of e).shape (value_bits t (map-TExpr TExpr RoomInParts (room_of shape) y))) (ap out-TExpr (sym is) ∙ out-roll-TExpr x)

pub own_assign : (shape : ℕ) (t : Bool) (e : TExpr) (ty : ValueType) (place : Place) (op : AssignOp) (target : Box TExpr Global) (value : Box TExpr Global) → e ≡ T.Assign ty place op target value → (room_of shape e).own t ≡ of_shape shape (type_of e).shape (if (room_of shape target.value).sends then 99 else 33)
unfolding value_bits
own_assign shape t e ty place op target value is = own_by shape t (TExpr-F.Assign ty place op target value) (rolls-Assign ty place op target value ∙ sym is)

pub own_left_index : (shape : ℕ) (t : Bool) (e : TExpr) (ty : ValueType) (place : Place) (indexes : Vec TExpr Global) (variable : Variable) (of : ℕ) → e ≡ T.LeftIndex ty place indexes variable of → (room_of shape e).own t ≡ of_shape shape (type_of e).shape (if t then 33 else 99)
unfolding value_bits
own_left_index shape t e ty place indexes variable of is = own_by shape t (TExpr-F.LeftIndex ty place indexes variable of) (rolls-LeftIndex ty place indexes variable of ∙ sym is)

pub own_far : (shape : ℕ) (t : Bool) (e : TExpr) → ((ty : ValueType) × (source : Box TExpr Global) × (axis : ℕ) × (combiner : Combiner) × (direction : Direction) × (mode : SegmentMode) × (bit : Option Variable) × (inclusion : Inclusion) × e ≡ T.Scan ty source axis combiner direction mode bit inclusion)
    ⊎ ((ty : ValueType) × (axis : ℕ) × (direction : Direction) × (inclusion : Inclusion) × (mode : SegmentMode) × (bit : Option Variable) × e ≡ T.Enumerate ty axis direction inclusion mode bit) → (room_of shape e).own t ≡ of_shape shape (type_of e).shape 99
unfolding value_bits
own_far shape t e (inl (ty, source, axis, combiner, direction, mode, bit, inclusion, is)) = own_by shape t (TExpr-F.Scan ty source axis combiner direction mode bit inclusion) (rolls-Scan ty source axis combiner direction mode bit inclusion ∙ sym is)
own_far shape t e (inr (ty, axis, direction, inclusion, mode, bit, is)) = own_by shape t (TExpr-F.Enumerate ty axis direction inclusion mode bit) (rolls-Enumerate ty axis direction inclusion mode bit ∙ sym is)

pub own_none : (shape : ℕ) (t : Bool) (e : TExpr) → ((ty : ValueType) × (operand : Box TExpr Global) × e ≡ T.Convert ty operand) ⊎ ((ty : ValueType) × (operand : Box TExpr Global) × e ≡ T.Promote ty operand) → (room_of shape e).own t ≡ of_shape shape (type_of e).shape 0
unfolding value_bits
own_none shape t e (inl (ty, operand, is)) = own_by shape t (TExpr-F.Convert ty operand) (rolls-Convert ty operand ∙ sym is)
own_none shape t e (inr (ty, operand, is)) = own_by shape t (TExpr-F.Promote ty operand) (rolls-Promote ty operand ∙ sym is)

abbrev NotAssign : TExpr → Type 0
NotAssign e = (ty : ValueType) (place : Place) (op : AssignOp) (target : Box TExpr Global) (value : Box TExpr Global) → e ≡ T.Assign ty place op target value → ⊥

abbrev NotScan : TExpr → Type 0
NotScan e = (ty : ValueType) (source : Box TExpr Global) (axis : ℕ) (combiner : Combiner) (direction : Direction) (mode : SegmentMode) (bit : Option Variable) (inclusion : Inclusion) → e ≡ T.Scan ty source axis combiner direction mode bit inclusion → ⊥

abbrev NotEnumerate : TExpr → Type 0
NotEnumerate e = (ty : ValueType) (axis : ℕ) (direction : Direction) (inclusion : Inclusion) (mode : SegmentMode) (bit : Option Variable) → e ≡ T.Enumerate ty axis direction inclusion mode bit → ⊥

abbrev NotConvert : TExpr → Type 0
NotConvert e = (ty : ValueType) (operand : Box TExpr Global) → e ≡ T.Convert ty operand → ⊥

abbrev NotPromote : TExpr → Type 0
NotPromote e = (ty : ValueType) (operand : Box TExpr Global) → e ≡ T.Promote ty operand → ⊥

other_own : (shape : ℕ) (t : Bool) (x : TExpr-F TExpr) (e : TExpr) → roll-TExpr x ≡ e → NotAssign e → NotLeftIndex e → NotScan e → NotEnumerate e → NotConvert e → NotPromote e → (room_of shape e).own t ≡ of_shape shape (type_of e).shape 33
unfolding value_bits
other_own shape t (TExpr-F.Assign ty place op target value) e is n0 n1 n2 n3 n4 n5 = absurd (n0 ty place op target value (sym is ∙ rolls-Assign ty place op target value))
other_own shape t (TExpr-F.LeftIndex ty place indexes variable of) e is n0 n1 n2 n3 n4 n5 = absurd (n1 ty place indexes variable of (sym is ∙ rolls-LeftIndex ty place indexes variable of))
other_own shape t (TExpr-F.Scan ty source axis combiner direction mode bit inclusion) e is n0 n1 n2 n3 n4 n5 = absurd (n2 ty source axis combiner direction mode bit inclusion (sym is ∙ rolls-Scan ty source axis combiner direction mode bit inclusion))
other_own shape t (TExpr-F.Enumerate ty axis direction inclusion mode bit) e is n0 n1 n2 n3 n4 n5 = absurd (n3 ty axis direction inclusion mode bit (sym is ∙ rolls-Enumerate ty axis direction inclusion mode bit))
other_own shape t (TExpr-F.Convert ty operand) e is n0 n1 n2 n3 n4 n5 = absurd (n4 ty operand (sym is ∙ rolls-Convert ty operand))
other_own shape t (TExpr-F.Promote ty operand) e is n0 n1 n2 n3 n4 n5 = absurd (n5 ty operand (sym is ∙ rolls-Promote ty operand))
other_own shape t x e is n0 n1 n2 n3 n4 n5 = own_by shape t x is

pub own_other : (shape : ℕ) (t : Bool) (e : TExpr) → NotAssign e → NotLeftIndex e → NotScan e → NotEnumerate e → NotConvert e → NotPromote e → (room_of shape e).own t ≡ of_shape shape (type_of e).shape 33
own_other shape t e = other_own shape t (out-TExpr e) e (roll-out-TExpr e)
