use Rattle.std.proofs.Common.{◌≡◌, Bool, List, sym, ◌∙◌, ap}
use Rattle.job_board.specs.History.{is_drawn, is_posted}
use Rattle.job_board.proofs.Keeps.{keeps_posted, room_to_post}
use Rattle.job_board.proofs.book.Book.post.Goals as goal

-- what a test says of a list that was lent
said_of : {X : Type 0} → (test : List X → Bool) {lent xs : List X} {said known : Bool} → lent ≡ xs → said ≡ test lent → said ≡ known → test xs ≡ known
said_of test same is was = ap test (sym same) ∙ (sym is ∙ was)

pub note-requires : goal.note-requires
note-requires g c =
    let is_drawn = said_of (is_drawn c.args.number) c.deref.ensures.value c.has_draw.ensures c.if-not-has_draw.false in
    let is_open = said_of (is_posted c.args.number) c.deref-else-not-has_draw.ensures.value c.has_post.ensures c.if-has_post.false in
    room_to_post _ _ c.self.inside.count c.self.inside.drawn _ c.self.inside.history.items c.args.number c.args.report c.self.invariant is_drawn is_open c.requires

pub invariant_of-self : goal.invariant_of-self
invariant_of-self g c =
    let is_drawn = said_of (is_drawn c.args.number) c.deref.ensures.value c.has_draw.ensures c.if-not-has_draw.false in
    let is_open = said_of (is_posted c.args.number) c.deref-else-not-has_draw.ensures.value c.has_post.ensures c.if-has_post.false in
    rw c.note.ensures.entries (keeps_posted _ _ c.self.inside.count c.self.inside.drawn _ c.self.inside.history.items _ c.note.ensures.room c.args.number c.args.report c.self.invariant is_drawn is_open c.requires)

pub returns-clause-legal : goal.returns-clause-legal
returns-clause-legal g c = (invariant_of-self g c).legal
