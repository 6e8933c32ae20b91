use Rattle.std.proofs.Common.{◌∙◌, ap, append-nil, map}
use Rattle.std.proofs.lemmas.Result.{IfOk-weaker}
use Rattle.cstar_tree.specs.TypedParts.{calls_in, concat, optional}
use Rattle.shape_room.proofs.AddedCalls.{none_added, one_added}
use Rattle.shape_room.proofs.calls.optional_expression.Goals as goal

pub returns-in-Some : goal.returns-in-Some
unfolding concat
returns-in-Some c = IfOk-weaker c.expression.result _ _ (λ _ last. one_added _ last (ap (λ e. concat (map calls_in (optional e))) c.in-Some.is ∙ append-nil (calls_in c.in-Some.e))) c.expression.ensures

pub returns-in-None : goal.returns-in-None
unfolding concat
returns-in-None c = none_added _ (ap (λ e. concat (map calls_in (optional e))) c.in-None.is)
