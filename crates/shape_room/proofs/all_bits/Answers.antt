use Rattle.std.proofs.Common.{◌∙◌, ◌*◌, ℕ, ap}
use Rattle.cstar_tree.specs.Room.{blocks}
use Rattle.shape_room.proofs.Counting.{sum_more, sum_of_all}
use Rattle.shape_room.proofs.MachineRoom.{next_bits, no_bits_left}
use Rattle.shape_room.specs.Counted.{counted}
use Rattle.shape_room.proofs.all_bits.Goals as goal

pub returns : goal.returns
returns c = sum_of_all _ _ c.loop-number.invariant (no_bits_left c.args.shapes.now c.args.needs.now c.loop-number.number c.loop-number-test.false)

pub loop-number-preserved : goal.loop-number-preserved
loop-number-preserved c =
    let info = c.index-shapes-number.result in
    let next = next_bits c.args.shapes.now c.args.needs.now c.loop-number.number info c.loop-number-test.true c.index-shapes-number.is in
    let bits = c.machine_bits.ensures ∙ ap (λ (n : ℕ). counted (n * 512 * blocks info.extents.items)) (c.from.ensures ∙ c.need_at.ensures) in
    sum_more _ _ _ _ c.loop-number.invariant next bits c.saturating_add-total.ensures
