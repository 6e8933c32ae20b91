use Rattle.std.proofs.Common.{take}
use Rattle.std.specs.List.{flat_map}
use Rattle.paris_code.specs.Spans.{fields_of_coordinate}
use Rattle.cstar_link.specs.Sets.{AreRaised}
use Rattle.cstar_link.proofs.sets.raise_by_coordinates.Given as goal

abbrev pub invariant-loop-coordinate : goal.invariant-loop-coordinate
invariant-loop-coordinate l = AreRaised (flat_map fields_of_coordinate (take l.coordinate-index l.coordinates)) l.initial.ends l.ends
