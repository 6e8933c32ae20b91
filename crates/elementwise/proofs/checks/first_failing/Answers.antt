use Rattle.std.proofs.Common.{ℕ, ◌+◌, ◌*◌, List, cond, ltb, ◌∙◌, map, min, ap}
use Rattle.bit_planes.specs.declared.plane.Plane.{Plane}
use Rattle.bit_planes.specs.Bits.{bit}
use Rattle.vp_sets.specs.Positions.{position_count}
use Rattle.paris_code.specs.Checking.{fails}
use Rattle.paris_code.specs.Shapes.{bits_at, extents_at}
use Rattle.block_store.specs.Stored.{shape_of_plan}
use Rattle.elementwise.specs.Blocks.{block_memory}
use Rattle.elementwise.proofs.Failing.{first_is}
use Rattle.elementwise.proofs.checks.first_failing.Goals as goal

pub returns : goal.returns
returns c =
    let shapes = map shape_of_plan c.args.plans.now in
    let instr = c.args.instr.now in
    first_is shapes instr c.args.args.now c.args.k c.first_lane.result c.used_lanes-used.result c.both-active.result c.failing_lanes-failing.result c.both.result c.args.block.now.planes.items c.plan_of-plan.result.now.bits
    (c.plan_of-plan.ensures.bits ∙ ap (bits_at shapes) c.checked_set.ensures)
    (λ i b. c.used_lanes-used.ensures i b ∙ ap (λ (xs : List ℕ). cond (ltb (512 * c.args.k + i) (position_count xs)) 1 0) (c.plan_of-plan.ensures.extents ∙ ap (extents_at shapes) c.checked_set.ensures))
    (λ i b. c.both-active.ensures i b ∙ ap (λ v. min (bit c.used_lanes-used.result i) (bit v i)) c.plane.ensures)
    (λ i b. c.failing_lanes-failing.ensures i b ∙ ap (λ (planes : List Plane). cond (fails shapes instr c.args.args.now (block_memory planes) (512 * c.args.k + i)) 1 0) c.deref.ensures.value)
    c.both.ensures c.first_lane.ensures.before c.first_lane.ensures.here
