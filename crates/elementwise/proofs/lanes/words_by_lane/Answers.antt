use Rattle.std.proofs.Common.{◌≡◌, ℕ, ◌+◌, ◌%◌, ◌^◌, ◌<◌, ◌∙◌, map, length, subst, ap, arith}
use Rattle.std.proofs.Math.ListN.{length-set}
use Rattle.std.proofs.lemmas.List.{length-map}
use Rattle.vp_sets.specs.Blocks.{block_end}
use Rattle.vp_sets.specs.Positions.{position_count}
use Rattle.paris_code.specs.Elementwise.{element, destination}
use Rattle.paris_code.specs.Shapes.{extents_at}
use Rattle.block_store.specs.Stored.{shape_of_plan}
use Rattle.elementwise.specs.Blocks.{block_memory}
use Rattle.elementwise.proofs.Written.{one_word, range_is}
use Rattle.elementwise.proofs.lanes.words_by_lane.Goals as goal

pub element-requires-clause-position : goal.element-requires-clause-position
element-requires-clause-position c =
    let shapes = map shape_of_plan c.args.plans.now in
    let range = range_is (extents_at shapes c.args.set) c.args.k c.block_range-start.result.0 c.block_range-start.result.1 c.block_range-start.ensures.start
    (c.block_range-start.ensures.end ∙ ap (λ extents. block_end extents c.args.k) c.plan_of.ensures.extents) in
    let at = range.1 c.lanes.i c.lanes-test.true in
    subst (λ set. (set < length shapes) × (c.block_range-start.result.0 + c.lanes.i < position_count (extents_at shapes set))) c.requires.set (omega (arith, c.requires.exists, length-map c.args.plans.now shape_of_plan), at.1)

pub bounds-words-i : goal.bounds-words-i
bounds-words-i c =
    let shapes = map shape_of_plan c.args.plans.now in
    let range = range_is (extents_at shapes c.args.set) c.args.k c.block_range-start.result.0 c.block_range-start.result.1 c.block_range-start.ensures.start
    (c.block_range-start.ensures.end ∙ ap (λ extents. block_end extents c.args.k) c.plan_of.ensures.extents) in
    (range.1 c.lanes.i c.lanes-test.true).0

pub lanes-preserved : goal.lanes-preserved
lanes-preserved c =
    let shapes = map shape_of_plan c.args.plans.now in
    let instr = c.args.instr.now in
    let args = c.args.args.now in
    let m = block_memory c.args.block.now.planes.items in
    let width : ℕ = 2 ^ (destination shapes instr).len in
    let range = range_is (extents_at shapes c.args.set) c.args.k c.block_range-start.result.0 c.block_range-start.result.1 c.block_range-start.ensures.start
    (c.block_range-start.ensures.end ∙ ap (λ extents. block_end extents c.args.k) c.plan_of.ensures.extents) in
    let at = range.1 c.lanes.i c.lanes-test.true in (
      length-set c.lanes.words c.lanes.i c.element.result ∙ c.lanes.invariant.0,
      one_word (λ j x. x % width ≡ element shapes instr args m (c.block_range-start.result.0 + j) % width) c.lanes.words c.lanes.i c.element.result (omega (arith, c.lanes.invariant.0, at.0)) c.lanes.invariant.1 c.element.ensures,
    )

pub returns : goal.returns
returns c = λ i b within.
    let shapes = map shape_of_plan c.args.plans.now in
    let instr = c.args.instr.now in
    let args = c.args.args.now in
    let m = block_memory c.args.block.now.planes.items in
    let width : ℕ = 2 ^ (destination shapes instr).len in
    let range = range_is (extents_at shapes c.args.set) c.args.k c.block_range-start.result.0 c.block_range-start.result.1 c.block_range-start.ensures.start
    (c.block_range-start.ensures.end ∙ ap (λ extents. block_end extents c.args.k) c.plan_of.ensures.extents) in
    c.lanes.invariant.1 i (omega (arith, c.lanes-test.false, range.2 i b within))
    ∙ ap (λ start. element shapes instr args m (start + i) % width) range.0
