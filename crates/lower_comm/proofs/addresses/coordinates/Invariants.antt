use Rattle.std.proofs.Common.{◌≡◌, true, drop, map, take}
use Rattle.lower_comm.specs.Messages.{all_somewhere, index_coordinate}
use Rattle.lower_comm.proofs.addresses.coordinates.Given as goal

abbrev pub invariant-loop-index : goal.invariant-loop-index
invariant-loop-index l = (l.coordinates.items ≡ map index_coordinate (take l.index-index l.indexes)) × (all_somewhere (drop l.index-index l.indexes) ≡ true)
