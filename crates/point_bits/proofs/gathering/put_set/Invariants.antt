use Rattle.std.proofs.Common.{◌≡◌, ℕ, ◌*◌, ◌<◌, ◌++◌, List, length, take, drop}
use Rattle.std.specs.Prelude.{reverse}
use Rattle.block_store.specs.Planes.{block_bit}
use Rattle.paris_code.specs.Memory.{BitMemory}
use Rattle.paris_code.specs.Shapes.{SetShape}
use Rattle.point_bits.specs.Strings.{IsStringOf, set_bytes}
use Rattle.point_bits.proofs.gathering.put_set.Given as goal

abbrev pub invariant-each : goal.invariant-each
invariant-each l = record {
  left : l.blocks.items ≡ take (length l.blocks.items) l.fn.set.blocks.items;
  done : (shapes : List SetShape) (m : BitMemory) → IsStringOf shapes l.string
      → ((p i : ℕ) → p < l.string.positions → i < l.string.width → m.bit l.string.set p i ≡ block_bit l.fn.set.blocks.items p i)
      → reverse l.backward.items ≡ drop (length l.blocks.items * (64 * l.string.width)) (set_bytes shapes m l.string.set) ++ reverse l.fn.backward.items;
}

abbrev pub decreases-each : goal.decreases-each
decreases-each l = length l.blocks.items
