use Rattle.type_expressions.proofs.Meetings.{meets_from, meets_part}
use Rattle.type_expressions.proofs.WalkRecording.{constant_expected}
use Rattle.type_expressions.proofs.walk.typed_constant.Goals as goal

pub returns-clause-calls : goal.returns-clause-calls
returns-clause-calls c = rw c.expect_constant.ensures.instances (meets_from c.set_aside-earlier.ensures.instances (meets_part c.args.e.now c.part.ensures c.in_ok-typed.ensures.calls))

pub returns-clause-faults : goal.returns-clause-faults
returns-clause-faults c =
    rw c.expect_constant.ensures.instances (constant_expected _ c.args.file.now c.args.locals.now c.args.site c.part.result c.args.e.now _ c.place.result _ _ _ _ _ c.part.ensures c.set_aside-earlier.ensures.faults.0 c.set_aside-earlier.ensures.faults.1 c.in_ok-typed.ensures.faults c.expect_constant.ensures.faults)
