use Rattle.std.proofs.Common.{◌∙◌, subst}
use Rattle.call_groups.proofs.Declared.{DeclaratorsWalk, declarators_begin, declarators_next, take_all}
use Rattle.call_groups.proofs.calls.Calls.declaration.Goals as goal

pub loop-declarator-init : goal.loop-declarator-init
loop-declarator-init c = declarators_begin c.args.scope c.args.self.now

pub loop-declarator-preserved : goal.loop-declarator-preserved
loop-declarator-preserved c = declarators_next c.args.scope c.args.self.now c.loop-declarator.self c.declarator.new.self c.deref-declarator-items.result.now c.loop-declarator.declarator-index c.declarator-item.result c.loop-declarator-test.true c.declarator-item.is c.loop-declarator.invariant c.in_ok-declarator.ensures

pub returns : goal.returns
returns c =
    subst (λ ds. DeclaratorsWalk c.args.scope c.args.self.now c.loop-declarator.self ds)
    (take_all c.deref-declarator-items.result.now c.loop-declarator.declarator-index c.loop-declarator-test.false ∙ c.deref-declarator-items.ensures.value)
    c.loop-declarator.invariant
