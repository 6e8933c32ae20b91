use Rattle.std.proofs.Common.{◌∙◌, subst}
use Rattle.call_groups.proofs.Declared.{ParametersWalk, parameters_begin, parameters_next, take_all}
use Rattle.call_groups.proofs.calls.Calls.parameters.Goals as goal

pub loop-parameter-init : goal.loop-parameter-init
loop-parameter-init c = parameters_begin c.args.self.now

pub loop-parameter-preserved : goal.loop-parameter-preserved
loop-parameter-preserved c = parameters_next c.args.self.now c.loop-parameter.self c.declare.new.self c.deref-parameter-items.result.now c.loop-parameter.parameter-index c.parameter-item.result c.loop-parameter-test.true c.parameter-item.is c.loop-parameter.invariant c.in_ok-declare.ensures

pub returns : goal.returns
returns c =
    subst (λ ps. ParametersWalk c.args.self.now c.loop-parameter.self ps)
    (take_all c.deref-parameter-items.result.now c.loop-parameter.parameter-index c.loop-parameter-test.false ∙ c.deref-parameter-items.ensures.value)
    c.loop-parameter.invariant
