use Rattle.std.proofs.Common.{refl}
use Rattle.type_statements.proofs.Meetings.{no_calls, one_meets}
use Rattle.type_statements.proofs.declarations.typed_initial.Goals as goal

pub returns-in_default-clause-calls : goal.returns-in_default-clause-calls
returns-in_default-clause-calls c = rw c.in_default.is (no_calls c.args.file.now c.args.locals.now c.args.site refl)

pub returns-clause-calls : goal.returns-clause-calls
returns-clause-calls c = rw c.in-Some.is (one_meets c.args.file.now c.args.locals.now c.args.site c.in-Some.initial.value c.in_ok-value.ensures.calls)
