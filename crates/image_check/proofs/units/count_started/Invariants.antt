use Rattle.std.proofs.Common.{◌-◌, map, length}
use Rattle.paris_code.specs.Units.{start_of}
use Rattle.image_check.specs.Tables.{AreBegun}
use Rattle.image_check.proofs.units.count_started.Given as goal

abbrev pub invariant-loop-count : goal.invariant-loop-count
invariant-loop-count l = AreBegun (map start_of l.units) l.count l.place

abbrev pub decreases-loop-count : goal.decreases-loop-count
decreases-loop-count l = length l.units - l.count
