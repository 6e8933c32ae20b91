use Rattle.std.proofs.Common.{ℕ, List, length, map, refl, ap, arith}
use Rattle.std.proofs.lemmas.List.{at_drop_all, at_drop_more}
use Rattle.std.proofs.lemmas.Option.{slice_get_past, slice_get_read}
use Rattle.std.specs.Prelude.{slice_index}
use Rattle.cstar_tree.specs.Room.{greatest}
use Rattle.shape_room.proofs.room.greatest_called.Goals as goal

pub returns-in_default : goal.returns-in_default
unfolding greatest
returns-in_default c = rw (slice_get_past c.args.called.now c.args.number c.in_default.ensures.lookup.3) refl

pub loop-callee-preserved : goal.loop-callee-preserved
unfolding greatest
loop-callee-preserved c =
    let left = λ (ns : List ℕ). greatest (map (slice_index c.args.rooms.now) ns) in
    let next = at_drop_more left c.deref-callee-items.result.now c.loop-callee.callee-index 0 c.loop-callee-test.true in
    omega (arith, c.loop-callee.invariant, next, c.room_at.ensures, c.max-greatest.ensures)

pub returns : goal.returns
unfolding greatest
returns c =
    let lookup = c.in-Some.ensures.lookup in
    let called = slice_get_read c.args.called.now (length c.args.called.now) c.args.number c.in-Some.callees.now refl lookup.3.0 lookup.1 in
    let none = at_drop_all (λ (ns : List ℕ). greatest (map (slice_index c.args.rooms.now) ns)) c.deref-callee-items.result.now c.loop-callee.callee-index c.loop-callee-test.false in
    let items = ap (λ (ns : List ℕ). greatest (map (slice_index c.args.rooms.now) ns)) c.deref-callee-items.ensures.value in
    rw called (omega (arith, c.loop-callee.invariant, none, items))
