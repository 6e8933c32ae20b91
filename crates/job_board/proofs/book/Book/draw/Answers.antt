use Rattle.std.proofs.Common.{◌<◌, arith}
use Rattle.job_board.proofs.Keeps.{keeps_drawn, room_to_draw}
use Rattle.job_board.proofs.book.Book.draw.Goals as goal

pub note-requires : goal.note-requires
note-requires g c =
    let left : c.self.inside.drawn < c.self.inside.count = omega (arith, c.self.invariant.within, c.if-self.false) in
    room_to_draw _ _ c.self.inside.count c.self.inside.drawn _ c.self.inside.history.items c.self.invariant left

pub invariant_of-self : goal.invariant_of-self
invariant_of-self g c =
    let left : c.self.inside.drawn < c.self.inside.count = omega (arith, c.self.invariant.within, c.if-self.false) in
    rw c.note.ensures.entries (keeps_drawn _ _ c.self.inside.count c.self.inside.drawn _ c.self.inside.history.items _ c.note.ensures.room c.self.invariant left)

pub returns-clause-legal : goal.returns-clause-legal
returns-clause-legal g c = (invariant_of-self g c).legal
