use Rattle.std.proofs.lemmas.Result.{IfOk-weaker}
use Rattle.type_statements.specs.Meetings.{MeetsCalls}
use Rattle.type_statements.proofs.MetForms.{answered_calls}
use Rattle.type_statements.proofs.statements.simple.Goals as goal

pub returns-clause-calls : goal.returns-clause-calls
returns-clause-calls c = IfOk-weaker c.outcome.result _ _ (λ r m. answered_calls (MeetsCalls c.args.found.now.instances c.simple_form.new.found.instances c.args.file.now c.args.scopes.now c.args.site c.args.s.now) c.in_ok-typed.typed _ _ r m (rw c.count.ensures.instances at c.in_ok-typed.ensures.calls)) c.outcome.ensures
