use Rattle.std.proofs.lemmas.Result.{IfOk-weaker}
use Rattle.type_expressions.proofs.Walking.{told_along}
use Rattle.type_expressions.proofs.along.with_axis.Goals as goal
use Rattle.type_expressions.proofs.AlongRecording.{along_outcome}

pub returns-clause-typed : goal.returns-clause-typed
returns-clause-typed c locals =
    IfOk-weaker c.outcome.result _ _ (λ r m. told_along c.args.file.now locals c.args.site c.args.e.now c.args.along c.args.source c.intrinsic.result _ _ r c.intrinsic.ensures.source (c.intrinsic.ensures.typed locals) m) c.outcome.ensures

pub returns-clause-faults : goal.returns-clause-faults
returns-clause-faults c locals =
    IfOk-weaker c.outcome.result _ _ (λ r m. along_outcome c.args.file.now locals c.args.site c.args.e.now c.args.along c.args.source c.intrinsic.result r _ _ (c.intrinsic.ensures.refused locals) c.intrinsic.ensures.without m) c.outcome.ensures
