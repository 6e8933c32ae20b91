use Rattle.std.proofs.lemmas.Result.{IfOk-weaker}
use Rattle.type_expressions.proofs.Walking.{cast_typed}
use Rattle.type_expressions.proofs.walk.cast_to.Goals as goal
use Rattle.type_expressions.proofs.NodeRecording.{cast_tells, cast_wanting}
use Rattle.type_expressions.proofs.walk.cast_to.Goals.{in_default-via-in-Some+in_default, in_default-via-in_default}

pub returns-clause-typed : goal.returns-clause-typed
returns-clause-typed c e =
    rw c.in-Some-Some.is-1 (IfOk-weaker c.outcome.result _ _ (λ r m. cast_typed c.args.file.now c.args.locals.now c.args.site c.args.place c.args.written.now e c.value_type.result c.in_ok-ty.ty c.in-Some-Some.ty c.in-Some-Some.operand c.parallel_cast.result _ _ r c.value_type.ensures c.in_ok-ty.ensures.part c.in-Some-Some.is-0 c.parallel_cast.ensures m) c.outcome.ensures)

pub returns-in_default-clause-faults : goal.returns-in_default-clause-faults
returns-in_default-clause-faults c e =
    cast_wanting c.args.file.now c.args.locals.now c.args.site c.args.place c.args.written.now e c.value_type.result c.in_ok-ty.ty c.args.operand _ _ c.value_type.ensures c.in_ok-ty.ensures.part c.in_ok-ty.ensures.least (λ a b is also. elim c.in_default.branch [
      | in_default-via-in-Some+in_default w ↦ let k = w.in_default in cc
      | in_default-via-in_default w ↦ let k = w.in_default in cc
    ])

pub returns-clause-faults : goal.returns-clause-faults
returns-clause-faults c e =
    rw c.in-Some-Some.is-1 (IfOk-weaker c.outcome.result _ _ (λ r m. cast_tells c.args.file.now c.args.locals.now c.args.site c.args.place c.args.written.now e c.value_type.result c.in_ok-ty.ty c.in-Some-Some.ty c.in-Some-Some.operand c.parallel_cast.result _ _ _ r c.value_type.ensures c.in_ok-ty.ensures.part c.in_ok-ty.ensures.least c.in-Some-Some.is-0 c.parallel_cast.ensures m) c.outcome.ensures)
