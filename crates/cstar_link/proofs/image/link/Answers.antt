use Rattle.std.proofs.Common.{◌∙◌}
use Rattle.cstar_link.specs.Linked.{code_from, entries_from}
use Rattle.cstar_link.proofs.Joined.{joined, listed}
use Rattle.cstar_link.proofs.image.link.Goals as goal

pub loop-unit-init : goal.loop-unit-init
unfolding code_from entries_from
loop-unit-init c = (c.new-code.ensures.items, c.new-entries.ensures.items)

pub loop-unit-preserved : goal.loop-unit-preserved
loop-unit-preserved c = (
  c.in_ok-join.ensures.code ∙ joined c.loop-unit.yielded c.in-Some.unit c.loop-unit.code.items c.loop-unit.invariant.0,
  c.in_ok-join.ensures.entries ∙ listed c.loop-unit.yielded c.in-Some.unit c.loop-unit.code.items c.loop-unit.entries.items c.loop-unit.invariant.0 c.loop-unit.invariant.1,
)
