use Rattle.std.proofs.Common.{◌≡◌, ◌++◌, drop}
use Rattle.lower_comm.specs.Messages.{signed_coordinates}
use Rattle.lower_comm.proofs.addresses.signed_coordinates.Given as goal

abbrev pub invariant-loop-axis : goal.invariant-loop-axis
invariant-loop-axis l =
    l.checked.items ++ signed_coordinates (drop l.axis l.indexes) (drop l.axis l.coordinates) ≡ signed_coordinates l.indexes l.coordinates
