use Rattle.std.proofs.Common.{◌<◌, ◌^◌, subst}
use Rattle.cstar_base.specs.declared.elem.Elem.{Elem}
use Rattle.source_meaning.proofs.ConstantLaws.{left_after, nothing_left}
use Rattle.source_meaning.proofs.cast.Goals as goal

pub loop-elem-preserved : goal.loop-elem-preserved
loop-elem-preserved c = (tt, tt, c.convert-word.ensures.bound, left_after _ _ _ _ _ _ _ _ _ c.in-Some.ensures.steps c.convert-word.ensures.value c.loop-elem.invariant.3)

pub returns-clause-value : goal.returns-clause-value
returns-clause-value c = (nothing_left _ _ _ _ _ _ c.in-None.ensures.steps.0 c.loop-elem.invariant.3).0

pub returns-clause-bound : goal.returns-clause-bound
returns-clause-bound c =
    let P : Elem → Type 0 = λ e. c.loop-elem.word < 2 ^ e.bits in
    subst P (nothing_left _ _ _ _ _ _ c.in-None.ensures.steps.0 c.loop-elem.invariant.3).1 c.loop-elem.invariant.2
