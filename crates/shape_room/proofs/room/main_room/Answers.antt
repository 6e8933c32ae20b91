use Rattle.std.proofs.Common.{◌≡◌, ◌∙◌, ℕ, List, ◌++◌, ap, drop, length, subst, sym, take, arith}
use Rattle.std.proofs.Math.Seq.{take-append_seam}
use Rattle.std.specs.Prelude.{slice_index}
use Rattle.shape_room.proofs.CallOrders.{AreGiven, given_main, given_more, order_of}
use Rattle.shape_room.proofs.room.main_room.Goals as goal

pub loop-number-init : goal.loop-number-init
loop-number-init c =
    let all : length c.in_ok-rooms.rooms.items ≡ length c.args.instances.now = omega (arith, c.in_ok-rooms.ensures.len, c.in_ok-rooms.rooms.ok.0) in
    (all, λ has is. record { all = all; each = λ j lt small. absurd (omega arith) })

pub loop-number-preserved : goal.loop-number-preserved
loop-number-preserved c =
    let new = c.give_room.new.rooms in
    let rest = drop (length new) c.loop-number.rooms.items in
    let before : c.deref_mut.result.now ≡ c.loop-number.rooms.items = c.deref_mut.ensures.value in
    let as_long : length new ≡ length c.loop-number.rooms.items = omega (arith, c.give_room.auto.rooms, ap length before) in
    let len : c.loop-number.rooms.len ≡ length new = omega (arith, c.loop-number.rooms.ok.0) in
    let back : take c.loop-number.rooms.len (new ++ rest) ≡ new = ap (λ (n : ℕ). take n (new ++ rest)) len ∙ take-append_seam new rest in
    rw back (
      omega (arith, c.loop-number.invariant.0),
      λ has is.
          let given = subst (λ (rs : List ℕ). AreGiven c.args.shape c.args.instances.now c.args.order.now rs c.loop-number.number-index) (sym before) (c.loop-number.invariant.1 has is) in
          given_more c.args.shape c.args.instances.now c.args.order.now (order_of c.args.instances.now c.args.called.now c.args.order.now has is) c.args.called.now has c.deref_mut.result.now c.loop-number.number-index c.loop-number-test.true given new c.give_room.ensures.given c.give_room.ensures.none,
    )

pub returns : goal.returns
returns c = λ has is.
    let done : c.loop-number.number-index ≡ length c.args.order.now = omega arith in
    let given = subst (λ (n : ℕ). AreGiven c.args.shape c.args.instances.now c.args.order.now c.loop-number.rooms.items n) done (c.loop-number.invariant.1 has is) in
    c.room_at.ensures ∙ ap (λ (rs : List ℕ). slice_index rs 0) c.deref.ensures.value ∙ given_main c.args.shape c.args.instances.now c.args.order.now c.loop-number.rooms.items (order_of c.args.instances.now c.args.called.now c.args.order.now has is) given
