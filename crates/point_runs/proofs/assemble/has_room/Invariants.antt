use Rattle.std.proofs.Common.{◌≡◌, ◌+◌, drop}
use Rattle.point_runs.specs.Assembled.{bits_of_sets}
use Rattle.point_runs.proofs.assemble.has_room.Given as goal

abbrev pub invariant-loop-shape : goal.invariant-loop-shape
invariant-loop-shape l = bits_of_sets l.shapes + l.left ≡ 1073741824 + bits_of_sets (drop l.shape-index l.shapes)
