use Rattle.std.proofs.Common.{ap, refl, sym, ◌∙◌, true≢false}
use Rattle.std.specs.Option.{option_copied, is_some}
use Rattle.std.proofs.lemmas.Result.{IfOk-weaker}
use Rattle.type_expressions.proofs.CalledFunctions.{call_typed}
use Rattle.type_expressions.proofs.Meetings.{at_answer, call_meets, none_called}
use Rattle.type_expressions.proofs.calls.call.Goals as goal
use Rattle.type_expressions.proofs.NodeRecording.{call_tells, call_wanting, no_function_tells}
use Rattle.type_expressions.proofs.Recording.{both_ok, is_none, lacks}

pub returns-clause-typed : goal.returns-clause-typed
returns-clause-typed c given =
    let kept = sym c.header.ensures ∙ ap option_copied c.in-Some-header.is in
    rw c.in-Some-arguments.is (IfOk-weaker c.settle-2.result _ _ (λ r m. call_typed c.reach.new.found.instances c.args.file.now c.args.locals.now c.args.site c.args.name.now given c.called.result c.in_ok-function.field-0 c.in-Some.function c.in-Some-header.header.now c.in_ok-instance.instance c.in-Some-arguments.arguments c.fitting_call-typed.result r c.called.ensures c.in_ok-function.ensures.part c.in-Some.is kept c.in_ok-instance.ensures.number c.fitting_call-typed.ensures.shape c.fitting_call-typed.ensures.recursion c.fitting_call-typed.ensures.typed m) c.settle-2.ensures.part)

pub returns-in_default-clause-calls : goal.returns-in_default-clause-calls
returns-in_default-clause-calls c = none_called c.args.name.now c.called.result c.in_ok-function.field-0 c.called.ensures c.in_ok-function.ensures.part c.in_default.not-Some refl

pub returns-in_default-arguments-clause-calls : goal.returns-in_default-arguments-clause-calls
returns-in_default-arguments-clause-calls c = call_meets c.args.name.now c.called.result c.in_ok-function.field-0 c.in-Some.function c.called.ensures c.in_ok-function.ensures.part c.in-Some.is c.in_ok-instance.ensures.calls

pub returns-in_default-header-clause-calls : goal.returns-in_default-header-clause-calls
returns-in_default-header-clause-calls c = call_meets c.args.name.now c.called.result c.in_ok-function.field-0 c.in-Some.function c.called.ensures c.in_ok-function.ensures.part c.in-Some.is c.in_ok-instance.ensures.calls

pub returns-clause-calls : goal.returns-clause-calls
returns-clause-calls c = at_answer c.settle-2.result (call_meets c.args.name.now c.called.result c.in_ok-function.field-0 c.in-Some.function c.called.ensures c.in_ok-function.ensures.part c.in-Some.is c.in_ok-instance.ensures.calls)

pub returns-in_default-clause-faults : goal.returns-in_default-clause-faults
returns-in_default-clause-faults c given = no_function_tells _ c.args.file.now c.args.locals.now c.args.site c.args.name.now given c.called.result c.in_ok-function.field-0 c.args.arguments _ _ c.called.ensures c.in_ok-function.ensures.part c.in_ok-function.ensures.least c.in_default.not-Some

pub returns-in_default-arguments-clause-faults : goal.returns-in_default-arguments-clause-faults
returns-in_default-arguments-clause-faults c given = call_wanting c.reach.new.found.instances c.args.file.now c.args.locals.now c.args.site c.args.name.now given c.called.result c.in_ok-function.field-0 c.in-Some.function _ c.in_ok-instance.instance c.args.arguments _ _ _ c.called.ensures c.in_ok-function.ensures.part c.in-Some.is c.in_ok-function.ensures.least refl c.in_ok-instance.ensures.number c.in_ok-instance.ensures.faults (lacks c.args.arguments c.in_default-arguments.not-Some)

pub returns-in_default-header-clause-faults : goal.returns-in_default-header-clause-faults
returns-in_default-header-clause-faults c given =
    let none = sym c.header.ensures ∙ ap option_copied (is_none c.header.result c.in_default-header.not-Some) in
    absurd (true≢false (sym c.in_ok-instance.ensures.kept ∙ ap is_some none))

pub returns-clause-faults : goal.returns-clause-faults
returns-clause-faults c given =
    let kept = sym c.header.ensures ∙ ap option_copied c.in-Some-header.is in
    rw c.in-Some-arguments.is (both_ok c.settle-2.result _ _ (λ r is settled. call_tells c.reach.new.found.instances c.args.file.now c.args.locals.now c.args.site c.args.name.now given c.called.result c.in_ok-function.field-0 c.in-Some.function c.in-Some-header.header.now c.in_ok-instance.instance c.in-Some-arguments.arguments c.fitting_call-typed.result r _ _ _ _ c.called.ensures c.in_ok-function.ensures.part c.in-Some.is c.in_ok-function.ensures.least kept c.in_ok-instance.ensures.number (rw kept at c.in_ok-instance.ensures.faults) c.fitting_call-typed.ensures.refused is settled) c.settle-2.ensures.part c.settle-2.ensures.least)
