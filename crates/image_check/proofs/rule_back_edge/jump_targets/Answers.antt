use Rattle.std.proofs.Common.{◌∙◌}
use Rattle.image_check.proofs.JumpMarks.{targets_more}
use Rattle.image_check.proofs.rule_back_edge.jump_targets.Goals as goal

pub loop-place-preserved : goal.loop-place-preserved
loop-place-preserved c = (
  c.mark.ensures.same ∙ c.loop-place.invariant.0,
  targets_more c.args.image.now.code.items c.loop-place.place c.instruction.result.now c.loop-place.marks.items c.mark.new.marks.items
      c.instruction.ensures c.mark.ensures.same c.mark.ensures.marked c.loop-place.invariant.1,
)
