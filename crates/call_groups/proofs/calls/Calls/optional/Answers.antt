use Rattle.std.proofs.Common.{ap}
use Rattle.std.proofs.lemmas.Result.{IfOk-weaker}
use Rattle.cstar_tree.specs.Calls.{calls_in_each}
use Rattle.cstar_tree.specs.TypedParts.{concat, optional}
use Rattle.call_groups.proofs.Adding.{none_added}
use Rattle.call_groups.proofs.Parts.{adds_some}
use Rattle.call_groups.proofs.calls.Calls.optional.Goals as goal

pub returns-in-Some : goal.returns-in-Some
returns-in-Some c = IfOk-weaker c.expr.result _ _ (λ _ a. adds_some c.in-Some.is a) c.expr.ensures

pub returns-in-None : goal.returns-in-None
unfolding concat
returns-in-None c = none_added c.args.self.now _ (λ here. ap (λ o. calls_in_each here (optional o)) c.in-None.is)
