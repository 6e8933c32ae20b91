use Rattle.std.proofs.Common.{◌∙◌, sym}
use Rattle.shape_room.proofs.Rooms.{sends_brackets, sends_left_index, sends_other}
use Rattle.shape_room.proofs.room.+is_send.Goals as goal

pub returns-in-Brackets : goal.returns-in-Brackets
returns-in-Brackets t c = λ shape. cc (sends_brackets shape c.args.target.now c.in-Brackets.ty c.in-Brackets.inner c.in-Brackets.is, c.is_send.ensures shape)

pub returns-in-LeftIndex : goal.returns-in-LeftIndex
returns-in-LeftIndex t c = λ shape. sends_left_index shape c.args.target.now _ _ _ _ _ c.in-LeftIndex.is ∙ sym c.is_some.ensures

pub returns-in_default : goal.returns-in_default
returns-in_default t c = λ shape. sends_other shape c.args.target.now c.in_default.not-Brackets c.in_default.not-LeftIndex
