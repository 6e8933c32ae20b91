use Rattle.std.proofs.Common.{sym, subst}
use Rattle.combine_core.specs.Kept.{Kept}
use Rattle.combine_core.specs.declared.event.Event.TheVariants.{Split, Claim, Deliver, Join}
use Rattle.combine_core.proofs.Steps.{answer_keeps, after_keeps}
use Rattle.combine_core.proofs.phase.Phase.step.Goals as goal

pub invariant_of-self : goal.invariant_of-self
invariant_of-self g c = answer_keeps c.split.result _ _ (Split c.in-Split.worker) c.self.invariant c.split.ensures.ok c.split.ensures.err

pub invariant_of-self-in-Claim : goal.invariant_of-self-in-Claim
invariant_of-self-in-Claim g c = answer_keeps c.claim.result _ _ (Claim c.in-Claim.worker) c.self.invariant c.claim.ensures.ok c.claim.ensures.err

pub invariant_of-self-in-Deliver : goal.invariant_of-self-in-Deliver
invariant_of-self-in-Deliver g c = subst Kept (sym c.deliver.ensures.after) (after_keeps _ (Deliver c.in-Deliver.worker c.in-Deliver.index) c.self.invariant)

pub invariant_of-self-in-Join : goal.invariant_of-self-in-Join
invariant_of-self-in-Join g c = answer_keeps c.join.result _ _ (Join c.in-Join.into c.in-Join.from) c.self.invariant c.join.ensures.ok c.join.ensures.err
