use Rattle.std.proofs.Common.{◌≡◌, ℕ, ◌<◌, length, drop}
use Rattle.std.specs.Prelude.{reverse}
use Rattle.block_store.specs.Stored.{blocks_at}
use Rattle.paris_code.specs.Shapes.{shapes_of}
use Rattle.point_bits.specs.Strings.{start_of}
use Rattle.point_bits.proofs.Fillings.{IsSetFor}
use Rattle.point_bits.proofs.putting_back.restored.Given as goal

abbrev pub invariant-each : goal.invariant-each
invariant-each l = record {
  count : length l.sets.items ≡ l.set;
  rest : reverse l.bytes.items ≡ drop (start_of (shapes_of l.sound) l.set) l.fn.bytes.items;
  each : (j : ℕ) → j < length l.sets.items → IsSetFor (shapes_of l.sound) l.fn.bytes.items j (blocks_at l.sets.items j);
}
