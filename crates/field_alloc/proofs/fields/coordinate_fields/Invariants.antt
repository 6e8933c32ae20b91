use Rattle.std.proofs.Common.{◌≡◌, ◌++◌, take}
use Rattle.std.specs.List.{flat_map}
use Rattle.paris_code.specs.Spans.{fields_of_coordinate}
use Rattle.field_alloc.proofs.fields.coordinate_fields.Given as goal

abbrev pub invariant-loop-coordinate : goal.invariant-loop-coordinate
invariant-loop-coordinate l = l.all.items ≡ l.initial.all.items ++ flat_map fields_of_coordinate (take l.coordinate-index l.coordinates)
