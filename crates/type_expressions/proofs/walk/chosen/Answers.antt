use Rattle.std.proofs.lemmas.Result.{IfOk-weaker}
use Rattle.type_expressions.proofs.Combined.{on_three}
use Rattle.type_expressions.proofs.walk.chosen.Goals as goal

pub returns-clause-typed : goal.returns-clause-typed
returns-clause-typed c place =
    rw (c.in-Some-Some-Some.is-0, c.in-Some-Some-Some.is-1, c.in-Some-Some-Some.is-2) (IfOk-weaker c.outcome.result _ _ (λ r m. on_three place c.in-Some-Some-Some.test c.in-Some-Some-Some.then c.in-Some-Some-Some.otherwise _ _ _ r c.in_ok-expr.ensures m) c.outcome.ensures)
