use Rattle.std.proofs.Common.{◌≡◌, ◌++◌, map, take, drop}
use Rattle.paris_code.specs.Moving.{moved_signed}
use Rattle.paris_code.proofs.moving.move_signed.Given as goal

abbrev pub invariant-loop-checked : goal.invariant-loop-checked
invariant-loop-checked l =
    l.coordinates ≡ map (moved_signed l.places) (take l.checked-index l.fn.coordinates) ++ drop l.checked-index l.fn.coordinates
