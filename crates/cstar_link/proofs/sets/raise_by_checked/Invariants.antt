use Rattle.std.proofs.Common.{take}
use Rattle.std.specs.List.{flat_map}
use Rattle.paris_code.specs.Operands.{coordinate_of}
use Rattle.paris_code.specs.Spans.{fields_of_coordinate}
use Rattle.cstar_link.specs.Sets.{AreRaised}
use Rattle.cstar_link.proofs.sets.raise_by_checked.Given as goal

abbrev pub invariant-loop-checked : goal.invariant-loop-checked
invariant-loop-checked l = AreRaised (flat_map (λ c. fields_of_coordinate (coordinate_of c)) (take l.checked-index l.coordinates)) l.initial.ends l.ends
