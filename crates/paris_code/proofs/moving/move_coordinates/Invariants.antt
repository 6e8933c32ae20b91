use Rattle.std.proofs.Common.{◌≡◌, ◌++◌, map, take, drop}
use Rattle.paris_code.specs.Moving.{moved_coordinate}
use Rattle.paris_code.proofs.moving.move_coordinates.Given as goal

abbrev pub invariant-loop-coordinate : goal.invariant-loop-coordinate
invariant-loop-coordinate l =
    l.coordinates ≡ map (moved_coordinate l.places) (take l.coordinate-index l.fn.coordinates) ++ drop l.coordinate-index l.fn.coordinates
