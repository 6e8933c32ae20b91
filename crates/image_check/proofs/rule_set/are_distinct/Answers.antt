use Rattle.std.proofs.Common.{refl}
use Rattle.std.proofs.lemmas.Bool.{false≢true}
use Rattle.image_check.proofs.StepLaws.{distinct_more, distinct_new}
use Rattle.image_check.proofs.rule_set.are_distinct.Goals as goal

pub returns-then-not-is_new_axis_before : goal.returns-then-not-is_new_axis_before
returns-then-not-is_new_axis_before c = (
  (λ t. absurd (false≢true t)),
  (λ distinct. c.if-not-is_new_axis_before.ensures.1 (distinct_new c.args.steps.now c.loop-k.k c.step_at.result c.step_at.ensures distinct)),
)

pub loop-k-preserved : goal.loop-k-preserved
loop-k-preserved c =
    distinct_more c.args.steps.now c.loop-k.k c.step_at.result c.step_at.ensures c.loop-k.invariant (c.if-not-is_new_axis_before.ensures.0 refl)
