use Rattle.std.proofs.Common.{◌+◌, ◌≡◌, List, [], ◌∷◌, ◌++◌, sym, ap, ◌∙◌, subst, Vec, Global}
use Rattle.image_check.specs.declared.chains.Call.{Call}
use Rattle.image_check.specs.Stacks.{AreCalls}
use Rattle.image_check.proofs.StackLaws.{calls_more, calls_same}
use Rattle.image_check.proofs.rule_stack.calls_of.Goals as goal
use Rattle.image_check.proofs.rule_stack.calls_of.Goals.{in-Some+in_ok-push-in-Some, in-None}

pub loop-place-preserved : goal.loop-place-preserved
loop-place-preserved c =
    let items : Vec Call Global → List Call = λ v. v.items in
    elim c.match-called.branch [
      | in-Some+in_ok-push-in-Some w ↦
          let call : Call = record { from = w.unit_at-from.result; to = w.in-Some.to } in
          let now : c.match-called.calls.items ≡ c.loop-place.calls.items ++ call ∷ [] = ap items w.calls-is ∙ w.in_ok-push-in-Some.ensures.items in
          subst (λ (cs : List Call). AreCalls c.args.image.now (c.loop-place.place + 1) cs) (sym now)
          (calls_more c.args.image.now c.loop-place.place c.loop-place.calls.items call c.instruction.result.now c.instruction.ensures
          w.in-Some.ensures w.unit_at-from.ensures c.loop-place.invariant)
      | in-None w ↦
          subst (λ (cs : List Call). AreCalls c.args.image.now (c.loop-place.place + 1) cs) (sym (ap items w.calls-is))
          (calls_same c.args.image.now c.loop-place.place c.loop-place.calls.items c.instruction.result.now c.instruction.ensures
          w.in-None.ensures c.loop-place.invariant)
    ]
