use Rattle.std.proofs.Common.{map}
use Rattle.field_alloc.specs.Placed.{ArePlacedUnits}
use Rattle.field_alloc.specs.Places.{items_of}
use Rattle.field_alloc.proofs.placing.placed_units.Given as goal

abbrev pub invariant-loop-unit : goal.invariant-loop-unit
invariant-loop-unit l = ArePlacedUnits (map items_of l.places) 0 l.yielded l.over.items
