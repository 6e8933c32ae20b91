use Rattle.std.proofs.Common.{◌≡◌, map, take}
use Rattle.field_alloc.specs.Places.{items_of, units_from}
use Rattle.field_alloc.proofs.places.places_of_units.Given as goal

abbrev pub invariant-loop-unit : goal.invariant-loop-unit
invariant-loop-unit l = map items_of l.places.items ≡ units_from l.finals (map items_of l.own) 0 (take l.unit-index l.units)
