use Rattle.std.proofs.Common.{◌≡◌, map, take}
use Rattle.field_alloc.specs.Places.{items_of, entries_from}
use Rattle.field_alloc.proofs.places.places_of.Given as goal

abbrev pub invariant-loop-entry : goal.invariant-loop-entry
invariant-loop-entry l = l.places.items ≡ entries_from l.finals (map items_of l.own) l.number 0 (take l.entry-index l.entries)
