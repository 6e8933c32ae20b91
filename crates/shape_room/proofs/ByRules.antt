-- The room in parts is that of the rules.
use Rattle.std.proofs.Common.{◌≡◌, ℕ, ◌+◌, Bool, false, true, List, [], ◌∷◌, map, max, refl, sym, subst, ap, ap₂, ◌∙◌, arith, if◌then◌else◌, is_some, Option}
use Rattle.cstar_tree.specs.declared.typed.TExpr.{TExpr, map-TExpr}
use Rattle.cstar_tree.specs.declared.typed.TExpr.TheFolds.{fold-TExpr, fold-roll-TExpr, ind-TExpr}
use Rattle.cstar_tree.specs.declared.typed.TExpr.TheOpen.{TExpr-F}
use Rattle.cstar_tree.specs.Room.{ExpressionRoom, beside, expression_room, greatest_part, of_shape, room_step, same_room}
use Rattle.cstar_tree.specs.Scopes.{is_shape}
use Rattle.cstar_tree.specs.TypedParts.{node_type, parts_of}
use Rattle.shape_room.specs.Counted.{counted}
use Rattle.shape_room.specs.RoomInParts.{RoomInParts, joined, parts_room, parts_step, room_as, room_of, sends_to, value_bits}
use Rattle.shape_room.proofs.Rooms.{alone}

abbrev by_rules : ℕ → TExpr → ExpressionRoom
by_rules shape = fold-TExpr ExpressionRoom (room_step shape)

abbrev IsSame : ℕ → TExpr → Type 0
IsSame shape e = by_rules shape e ≡ joined (room_of shape e)

same_parts : (shape : ℕ) (es : List ((e : TExpr) × IsSame shape e)) → map (by_rules shape) (map (λ e. e.0) es) ≡ map joined (map (room_of shape) (map (λ e. e.0) es))
same_parts shape [] = refl
same_parts shape (e ∷ es) = ap₂ (λ (r : ExpressionRoom) (rs : List ExpressionRoom). r ∷ rs) e.1 (same_parts shape es)

either : (b : Bool) (n : ℕ) → (if b then n else n) ≡ n
either false n = refl
either true n = refl

-- a conversion adds nothing to its operand
operand_alone : (shape : ℕ) (at : Option ℕ) (a : RoomInParts) (n : ℕ) → n ≡ room_as false a → n ≡ of_shape shape at 0 + greatest_part 0 (joined a ∷ [])
unfolding of_shape
operand_alone shape at a n is = omega (arith, is, either (is_shape shape at) 0, alone a)

nothing_beside : (n : ℕ) → n ≡ n + greatest_part 0 []
unfolding greatest_part
nothing_beside n = omega arith

-- a node whose parts have the same room by the rules has the same itself
same_node : (shape : ℕ) (node : TExpr-F ((e : TExpr) × IsSame shape e)) →
    room_step shape (map-TExpr TExpr ExpressionRoom (by_rules shape) (map-TExpr ((e : TExpr) × IsSame shape e) TExpr (λ e. e.0) node))
    ≡ joined (parts_step shape (map-TExpr TExpr RoomInParts (room_of shape) (map-TExpr ((e : TExpr) × IsSame shape e) TExpr (λ e. e.0) node)))
unfolding room_step parts_step value_bits parts_room sends_to
same_node shape (TExpr-F.Assign ty p op target value) =
    ap₂ (λ (t v : ExpressionRoom). same_room (of_shape shape ty.shape (if t.sends then 99 else 33) + max t.target (beside 1 v.value))) target.value.1 value.value.1
same_node shape (TExpr-F.Step ty op order target) = ap (λ (t : ExpressionRoom). same_room (of_shape shape ty.shape 33 + t.target)) target.value.1
same_node shape (TExpr-F.Brackets ty inner) =
    ap (λ (r : ExpressionRoom). record { value = of_shape shape ty.shape 33 + r.value; target = of_shape shape ty.shape 33 + r.target; sends = r.sends }) inner.value.1
same_node shape (TExpr-F.LeftIndex ty p indexes variable of) =
    ap (λ (rs : List ExpressionRoom). record { value = of_shape shape ty.shape 99 + greatest_part 0 rs; target = of_shape shape ty.shape 33 + greatest_part 0 rs; sends = is_some ty.shape }) (same_parts shape indexes.items)
same_node shape (TExpr-F.Convert ty operand) = ap same_room (operand_alone shape ty.shape (room_of shape operand.value.0) _ (ap (λ (r : ExpressionRoom). r.value) operand.value.1))
same_node shape (TExpr-F.Promote ty operand) = ap same_room (operand_alone shape ty.shape (room_of shape operand.value.0) _ (ap (λ (r : ExpressionRoom). r.value) operand.value.1))
same_node shape (TExpr-F.Scan ty source _ _ _ _ _ _) =
    ap (λ (n : ℕ). same_room (of_shape shape ty.shape 99 + n)) (ap (λ (r : ExpressionRoom). r.value) source.value.1 ∙ sym (alone (room_of shape source.value.0)))
same_node shape (TExpr-F.Enumerate ty _ _ _ _ _) = ap same_room (nothing_beside (of_shape shape ty.shape 99))
same_node shape node = ap (λ (rs : List ExpressionRoom). same_room (of_shape shape (node_type node).shape 33 + greatest_part 0 rs)) (same_parts shape (parts_of node))

same : (shape : ℕ) (e : TExpr) → IsSame shape e
unfolding room_of
same shape = ind-TExpr (IsSame shape) (λ x y is.
    fold-roll-TExpr ExpressionRoom (room_step shape) x
    ∙ subst (λ (node : TExpr-F TExpr). room_step shape (map-TExpr TExpr ExpressionRoom (by_rules shape) node) ≡ joined (parts_step shape (map-TExpr TExpr RoomInParts (room_of shape) node))) is (same_node shape y)
    ∙ ap joined (sym (fold-roll-TExpr RoomInParts (parts_step shape) x)))

-- what is counted of the room in parts of a value is counted of the room that the rules give it
pub value_by_rules : (shape : ℕ) (e : TExpr) {n : ℕ} → n ≡ counted (room_as false (room_of shape e)) → n ≡ counted (expression_room shape e)
unfolding expression_room
value_by_rules shape e is = is ∙ ap (λ (r : ExpressionRoom). counted r.value) (sym (same shape e))
