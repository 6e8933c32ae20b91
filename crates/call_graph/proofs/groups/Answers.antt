use Rattle.std.proofs.Common.{ap, ◌∙◌, ◌≡◌, ℕ, ◌<◌, length, sym, subst, arith}
use Rattle.std.proofs.lemmas.List.{length-map}
use Rattle.std.proofs.lemmas.Result.{IfOk-weaker}
use Rattle.call_graph.specs.Graph.{AreGroups, Successors}
use Rattle.call_graph.proofs.Whole.{all_grouped}
use Rattle.call_graph.proofs.groups.Goals as goal

pub returns-clause-exact : goal.returns-clause-exact
returns-clause-exact c =
    let calls = Successors c.args.graph.now in
    let walk = c.in_ok-walked.field-0 in
    let size : length calls ≡ length c.args.graph.now = length-map c.args.graph.now _ in
    let come = λ (f : ℕ) (less : f < length calls). c.in_ok-walked.ensures.come f (omega arith) in
    let all = all_grouped calls walk.places.items walk.ungrouped.items c.in_ok-walked.ensures.walk come in
    IfOk-weaker c.groups.result _ _ (λ groups is. subst (λ items. AreGroups calls items) (sym is) all) c.groups.ensures

pub returns-clause-length : goal.returns-clause-length
returns-clause-length c =
    let calls = Successors c.args.graph.now in
    let walk = c.in_ok-walked.field-0 in
    let size : length calls ≡ length c.args.graph.now = length-map c.args.graph.now _ in
    let sized : length walk.places.items ≡ length calls = c.in_ok-walked.ensures.walk.sized in
    IfOk-weaker c.groups.result _ _
    (λ groups is.
    let same : length groups.items ≡ length walk.places.items = ap length is ∙ length-map walk.places.items _ in
    omega (arith, same, groups.ok.0))
    c.groups.ensures
