-- The room of an expression: the bits of its value, and the room of its parts.
use Rattle.std.specs.Prelude.{ℕ, ◌+◌, max, Bool, true, false, is_some, map, if◌then◌else◌}
use Rattle.cstar_tree.specs.declared.typed.TExpr.{TExpr}
use Rattle.cstar_tree.specs.declared.typed.TExpr.TheOpen.{TExpr-F}
use Rattle.cstar_tree.specs.declared.typed.TExpr.TheFolds.{fold-TExpr}
use Rattle.cstar_tree.specs.Room.{ExpressionRoom, beside, greatest_part, of_shape}
use Rattle.cstar_tree.specs.TypedParts.{node_type, parts_of}

-- Both are asked of the expression as a value, or (`true`) as the target of an assignment. `sends`
-- tells whether it is the targets of a send.
pub record RoomInParts : Type 0 where
  pub own : Bool → ℕ
  pub parts : Bool → ℕ
  pub sends : Bool

abbrev pub room_as : Bool → RoomInParts → ℕ
room_as is_target r = r.own is_target + r.parts is_target

-- as the rules of room have it
abbrev pub joined : RoomInParts → ExpressionRoom
joined r = record { value = room_as false r; target = room_as true r; sends = r.sends }

unfoldable pub value_bits : Bool → TExpr-F RoomInParts → ℕ
value_bits is_target (TExpr-F.Assign ty p op target value) = if target.value.sends then 99 else 33
value_bits is_target (TExpr-F.LeftIndex ty p indexes variable of) = if is_target then 33 else 99
value_bits is_target (TExpr-F.Scan ty _ _ _ _ _ _ _) = 99
value_bits is_target (TExpr-F.Enumerate ty _ _ _ _ _) = 99
value_bits is_target (TExpr-F.Convert ty operand) = 0
value_bits is_target (TExpr-F.Promote ty operand) = 0
value_bits is_target node = 33

unfoldable pub parts_room : Bool → TExpr-F RoomInParts → ℕ
parts_room is_target (TExpr-F.Assign ty p op target value) = max (room_as true target.value) (beside 1 (room_as false value.value))
parts_room is_target (TExpr-F.Step ty op order target) = room_as true target.value
parts_room is_target (TExpr-F.Brackets ty inner) = room_as is_target inner.value
parts_room is_target node = greatest_part 0 (map joined (parts_of node))

unfoldable pub sends_to : TExpr-F RoomInParts → Bool
sends_to (TExpr-F.Brackets ty inner) = inner.value.sends
sends_to (TExpr-F.LeftIndex ty p indexes variable of) = is_some ty.shape
sends_to node = false

unfoldable pub parts_step : ℕ → TExpr-F RoomInParts → RoomInParts
parts_step shape node = record {
  own = λ is_target. of_shape shape (node_type node).shape (value_bits is_target node);
  parts = λ is_target. parts_room is_target node;
  sends = sends_to node;
}

unfoldable pub room_of : ℕ → TExpr → RoomInParts
room_of shape = fold-TExpr RoomInParts (parts_step shape)
