use Rattle.std.proofs.Common.{take}
use Rattle.std.specs.List.{flat_map}
use Rattle.paris_code.specs.Rows.{shown}
use Rattle.paris_code.specs.Spans.{fields_of_operand}
use Rattle.cstar_link.specs.Sets.{AreRaised}
use Rattle.cstar_link.proofs.sets.raise_by_operands.Given as goal

abbrev pub invariant-loop-operand : goal.invariant-loop-operand
invariant-loop-operand l = AreRaised (flat_map (λ o. fields_of_operand (shown o)) (take l.operand-index l.operands)) l.initial.ends l.ends
