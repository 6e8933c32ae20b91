use Rattle.std.specs.Prelude.{◌↔◌, IsTrue}
use Rattle.std.proofs.lemmas.Result.{IfOk-weaker}
use Rattle.paris_code.specs.declared.instr.Instr.{Instr}
use Rattle.paris_code.specs.Units.{IsAt}
use Rattle.paris_code.specs.RuleStack.{KeepsStack}
use Rattle.image_check.specs.declared.chains.Call.{Call}
use Rattle.image_check.specs.Calls.{KeepsCall}
use Rattle.image_check.proofs.StackLaws.{keeps_at_call}
use Rattle.image_check.proofs.rule_stack.keeps_stack.Goals as goal

pub returns-in-Some : goal.returns-in-Some
returns-in-Some c =
    let call : Call = record { from = c.unit_at-from.result; to = c.in-Some.to } in
    let same : KeepsCall c.args.chains.now.calls.items c.args.image.now.depth call
    ↔ ((instr : Instr) → IsAt c.args.image.now c.args.place instr → KeepsStack c.args.image.now c.args.place instr) =
    keeps_at_call c.args.image.now c.args.chains.now.calls.items c.args.place call c.instruction.result.now c.requires.chains.calls
    c.instruction.ensures c.in-Some.ensures c.unit_at-from.ensures in
    IfOk-weaker c.keeps_call.result
    (λ keeps. IsTrue keeps ↔ KeepsCall c.args.chains.now.calls.items c.args.image.now.depth call)
    (λ keeps. IsTrue keeps ↔ ((instr : Instr) → IsAt c.args.image.now c.args.place instr → KeepsStack c.args.image.now c.args.place instr))
    (λ keeps told. ((λ t. same.0 (told.0 t)), (λ each. told.1 (same.1 each))))
    c.keeps_call.ensures
