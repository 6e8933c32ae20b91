use Rattle.std.proofs.lemmas.Result.{IfOk-weaker}
use Rattle.type_expressions.proofs.Combined.{on_both}
use Rattle.type_expressions.proofs.walk.combined.Goals as goal

pub returns-clause-typed : goal.returns-clause-typed
returns-clause-typed c =
    rw (c.in-Some-Some.is-0, c.in-Some-Some.is-1) (IfOk-weaker c.outcome.result _ _ (λ r m. on_both c.args.place c.args.op c.in-Some-Some.left c.in-Some-Some.right _ _ _ r c.in_ok-expr.ensures m) c.outcome.ensures)
