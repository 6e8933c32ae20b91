use Rattle.std.proofs.Common.{◌+◌, ◌*◌}
use Rattle.point_bits.specs.Strings.{RunPut}
use Rattle.point_bits.proofs.strings.SetString.put.Given as goal

abbrev pub invariant-lanes : goal.invariant-lanes
invariant-lanes l = RunPut (512 * l.block + l.lane) l.self.width l.run l.block l.words l.initial.bytes l.bytes
