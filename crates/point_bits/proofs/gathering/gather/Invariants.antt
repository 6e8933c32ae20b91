use Rattle.std.proofs.Common.{◌≡◌, ◌-◌, length, map, take}
use Rattle.std.specs.List.{concat, range_with_len}
use Rattle.std.specs.Prelude.{reverse}
use Rattle.block_store.specs.Stored.{stored}
use Rattle.cstar_base.specs.declared.operators.Winner.{Winner}
use Rattle.paris_code.specs.Shapes.{shapes_of}
use Rattle.point_bits.specs.Strings.{set_bytes}
use Rattle.point_bits.proofs.gathering.gather.Given as goal

abbrev pub invariant-sets : goal.invariant-sets
invariant-sets l = record {
  left : l.sets.items ≡ take (length l.sets.items) l.fn.sets.items;
  done : (w : Winner) → reverse l.backward.items
      ≡ concat (map (set_bytes (shapes_of l.sound) (stored l.fn.sets.items w)) (range_with_len (length l.sets.items) (length (shapes_of l.sound) - length l.sets.items)));
}

abbrev pub decreases-sets : goal.decreases-sets
decreases-sets l = length l.sets.items
