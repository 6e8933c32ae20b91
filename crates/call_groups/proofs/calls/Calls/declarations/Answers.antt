use Rattle.std.proofs.Common.{◌∙◌, subst}
use Rattle.call_groups.proofs.Declared.{DeclarationsWalk, declarations_begin, declarations_next, take_all}
use Rattle.call_groups.proofs.calls.Calls.declarations.Goals as goal

pub loop-declaration-init : goal.loop-declaration-init
loop-declaration-init c = declarations_begin c.args.scope c.args.self.now

pub loop-declaration-preserved : goal.loop-declaration-preserved
loop-declaration-preserved c = declarations_next c.args.scope c.args.self.now c.loop-declaration.self c.declaration.new.self c.deref-declaration-items.result.now c.loop-declaration.declaration-index c.declaration-item.result c.loop-declaration-test.true c.declaration-item.is c.loop-declaration.invariant c.in_ok-declaration.ensures

pub returns : goal.returns
returns c =
    subst (λ ds. DeclarationsWalk c.args.scope c.args.self.now c.loop-declaration.self ds)
    (take_all c.deref-declaration-items.result.now c.loop-declaration.declaration-index c.loop-declaration-test.false ∙ c.deref-declaration-items.ensures.value)
    c.loop-declaration.invariant
