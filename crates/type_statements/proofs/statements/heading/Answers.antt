use Rattle.type_expressions.proofs.CallsWithin.{begins_both}
use Rattle.type_statements.proofs.MetForms.{heading_meets}
use Rattle.type_statements.proofs.Walking.{heading_typed}
use Rattle.type_statements.proofs.statements.heading.Goals as goal

pub returns-clause-typed : goal.returns-clause-typed
returns-clause-typed c =
    rw c.in-For.is (heading_typed _ _ _ c.args.file.now c.args.scopes.now c.args.site c.in-For.place c.in-For.first c.in-For.test c.in-For.step c.in-For.body c.in_ok-first.first c.in_ok-test.test c.in_ok-step.step _ c.in_ok-test.ensures.met c.in_ok-step.ensures.met c.in_ok-first.ensures.typed c.in_ok-test.ensures.typed c.in_ok-step.ensures.typed c.in-Some-Some-Some.is-0 c.in-Some-Some-Some.is-1 c.in-Some-Some-Some.is-2)

pub returns-clause-met : goal.returns-clause-met
returns-clause-met c = begins_both c.in_ok-first.ensures.met (begins_both c.in_ok-test.ensures.met c.in_ok-step.ensures.met)

pub returns-in_default-2-clause-met : goal.returns-in_default-2-clause-met
returns-in_default-2-clause-met c = begins_both c.in_ok-first.ensures.met (begins_both c.in_ok-test.ensures.met c.in_ok-step.ensures.met)

pub returns-clause-calls : goal.returns-clause-calls
returns-clause-calls c =
    rw c.in-For.is (heading_meets c.args.file.now c.args.scopes.now.locals c.args.site c.in-For.place c.in-For.first c.in-For.test c.in-For.step c.in-For.body c.in_ok-first.ensures.calls c.in_ok-test.ensures.calls c.in_ok-step.ensures.calls)
