use Rattle.std.proofs.Common.{sym, ◌∙◌}
use Rattle.std.proofs.lemmas.Result.{IfOk-weaker}
use Rattle.cstar_tree.specs.declared.syntax.Expr as E
use Rattle.type_expressions.proofs.Told.{assigned_none, sent, told}
use Rattle.type_expressions.proofs.walk.assigned.Goals as goal
use Rattle.type_expressions.proofs.walk.assigned.Goals.{in_default-2-via-in-Some+in_default, in_default-2-via-in_default}

pub returns-in_default-2 : goal.returns-in_default-2
returns-in_default-2 c =
    rw c.in-Some.is (assigned_none c.args.site c.args.place c.args.op c.in-Some.target c.sending.result c.args.value c.in_ok-target.target _ _ c.sending.ensures c.in_ok-target.ensures.part c.in_ok-target.ensures.least (λ a b is also. elim c.in_default-2.branch [
      | in_default-2-via-in-Some+in_default w ↦ let k = w.in_default-2 in cc
      | in_default-2-via-in_default w ↦ let k = w.in_default-2 in cc
    ]))

pub returns : goal.returns
returns c =
    let s = sent c.args.op c.in-Some.target c.sending.result c.in-Some-Some.target c.sending.ensures (sym c.in-Some-Some.is-0 ∙ c.in_ok-target.ensures.part) c.in_ok-target.ensures.least in
    let assign = rw s.0 at c.assign.ensures in
    rw (c.in-Some.is, c.in-Some-Some.is-1) (IfOk-weaker c.outcome.result _ _ (λ r m program here t v i h k.
    told program here (E.Assign c.args.place c.args.op t v) c.args.faults.now.least c.settle.new.self.least c.outcome.new.faults.least c.assign.result r (assign s.1 program here t v i h k) m s.2) c.outcome.ensures)
