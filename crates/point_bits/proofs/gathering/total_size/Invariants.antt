use Rattle.std.proofs.Common.{◌≡◌, ◌*◌, ◌≤◌}
use Rattle.paris_code.specs.Shapes.{shapes_of}
use Rattle.point_bits.specs.Strings.{start_of}
use Rattle.point_bits.proofs.gathering.total_size.Given as goal

abbrev pub invariant-sets : goal.invariant-sets
invariant-sets l = record {
  size : l.size ≡ start_of (shapes_of l.sound) l.set;
  small : l.size ≤ l.set * 140737488617472;
}
