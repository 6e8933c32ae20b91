use Rattle.std.proofs.lemmas.Result.{IfOk-weaker}
use Rattle.call_groups.proofs.Declared.{declarator_walks, initial_added, no_initial}
use Rattle.call_groups.proofs.calls.Calls.declarator.Goals as goal

pub returns-in-Some : goal.returns-in-Some
returns-in-Some c =
    let d = c.args.declarator.now in
    IfOk-weaker c.expr.result _ _ (λ _ a. declarator_walks c.args.scope c.args.self.now c.optional.new.self c.declare.new.self c.expr.new.self d c.in_ok-optional.ensures c.in_ok-declare.ensures (initial_added c.declare.new.self c.expr.new.self d.initial c.in-Some.initial c.in-Some.is a)) c.expr.ensures

pub returns-in-None : goal.returns-in-None
returns-in-None c =
    let d = c.args.declarator.now in
    declarator_walks c.args.scope c.args.self.now c.optional.new.self c.declare.new.self c.declare.new.self d c.in_ok-optional.ensures c.in_ok-declare.ensures (no_initial c.declare.new.self d.initial c.in-None.is)
