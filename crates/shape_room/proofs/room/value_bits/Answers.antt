use Rattle.std.proofs.Common.{◌∙◌, Bool, ap, sym, if◌then◌else◌}
use Rattle.cstar_tree.specs.Room.{of_shape}
use Rattle.cstar_tree.specs.Typed.{type_of}
use Rattle.shape_room.proofs.Rooms.{own_assign, own_left_index, own_far, own_none, own_other}
use Rattle.shape_room.specs.RoomInParts.{room_of}
use Rattle.shape_room.proofs.room.value_bits.Goals as goal

pub returns-in_default : goal.returns-in_default
returns-in_default c = λ shape. own_other shape c.args.is_target c.args.e.now c.in_default.not-Assign c.in_default.not-LeftIndex c.in_default.not-Scan c.in_default.not-Enumerate c.in_default.not-Convert c.in_default.not-Promote

pub returns-in-Convert : goal.returns-in-Convert
returns-in-Convert c = λ shape. own_none shape c.args.is_target c.args.e.now c.in-Convert.is

pub returns-in-Convert-2 : goal.returns-in-Convert-2
returns-in-Convert-2 c = λ shape. own_none shape c.args.is_target c.args.e.now c.in-Convert.is

pub returns-in-Scan : goal.returns-in-Scan
returns-in-Scan c = λ shape. own_far shape c.args.is_target c.args.e.now c.in-Scan.is

pub returns-in-Scan-2 : goal.returns-in-Scan-2
returns-in-Scan-2 c = λ shape. own_far shape c.args.is_target c.args.e.now c.in-Scan.is

pub returns-then-is_send : goal.returns-then-is_send
returns-then-is_send c = λ shape.
    let sends = ap (λ e. (room_of shape e).sends) (sym c.deref.ensures) ∙ c.is_send.ensures shape ∙ c.if-is_send.true in
    own_assign shape c.args.is_target c.args.e.now _ _ _ _ _ c.in-Assign.is ∙ ap (λ (b : Bool). of_shape shape (type_of c.args.e.now).shape (if b then 99 else 33)) sends

pub returns-else-is_send : goal.returns-else-is_send
returns-else-is_send c = λ shape.
    let sends = ap (λ e. (room_of shape e).sends) (sym c.deref.ensures) ∙ c.is_send.ensures shape ∙ c.if-is_send.false in
    own_assign shape c.args.is_target c.args.e.now _ _ _ _ _ c.in-Assign.is ∙ ap (λ (b : Bool). of_shape shape (type_of c.args.e.now).shape (if b then 99 else 33)) sends

pub returns-then-is_target : goal.returns-then-is_target
returns-then-is_target c = λ shape. own_left_index shape c.args.is_target c.args.e.now _ _ _ _ _ c.in-LeftIndex.is ∙ ap (λ (b : Bool). of_shape shape (type_of c.args.e.now).shape (if b then 33 else 99)) c.if-is_target.true

pub returns-else-is_target : goal.returns-else-is_target
returns-else-is_target c = λ shape. own_left_index shape c.args.is_target c.args.e.now _ _ _ _ _ c.in-LeftIndex.is ∙ ap (λ (b : Bool). of_shape shape (type_of c.args.e.now).shape (if b then 33 else 99)) c.if-is_target.false
