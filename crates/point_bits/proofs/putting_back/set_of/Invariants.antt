use Rattle.std.proofs.Common.{◌≡◌, ℕ, ◌<◌, length, drop}
use Rattle.std.specs.Prelude.{reverse}
use Rattle.block_store.specs.Planes.{planes_at}
use Rattle.point_bits.proofs.Fillings.{IsBlockFor, end_of}
use Rattle.point_bits.proofs.putting_back.set_of.Given as goal

abbrev pub invariant-each : goal.invariant-each
invariant-each l = record {
  count : length l.blocks.items ≡ l.block;
  rest : reverse l.backward.items ≡ drop (end_of l.string l.block) (reverse l.fn.backward.items);
  each : (j : ℕ) → j < length l.blocks.items → IsBlockFor l.string (reverse l.fn.backward.items) j (planes_at l.blocks.items j);
}
