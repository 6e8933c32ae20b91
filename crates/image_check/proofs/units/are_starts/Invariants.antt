use Rattle.std.proofs.Common.{◌↔◌, map, drop}
use Rattle.paris_code.specs.Units.{start_of}
use Rattle.paris_code.specs.RuleTarget.{AreOrdered}
use Rattle.image_check.proofs.units.are_starts.Given as goal

abbrev pub invariant-loop-unit : goal.invariant-loop-unit
invariant-loop-unit l =
    AreOrdered l.initial.last (map start_of l.later) l.end ↔ AreOrdered l.last (map start_of (drop l.unit-index l.later)) l.end
