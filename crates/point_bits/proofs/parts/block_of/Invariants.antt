use Rattle.std.proofs.Common.{◌≡◌, ℕ, ◌*◌, ◌<◌, ◌≤◌, length}
use Rattle.bit_planes.specs.Bits.{bit}
use Rattle.bit_planes.specs.Planes.{plane_at}
use Rattle.point_bits.specs.Strings.{string_at}
use Rattle.point_bits.proofs.Copies.{Copied}
use Rattle.point_bits.proofs.parts.block_of.Given as goal

abbrev pub invariant-runs : goal.invariant-runs
invariant-runs l = record {
  long : length l.block.planes.items ≡ l.string.width;
  copied : Copied l.string.positions l.string.width 0 (32 * l.number) (string_at l.string.width l.bytes) (λ p i. bit (plane_at l.block.planes.items i) p);
  quiet : (p i : ℕ) → l.string.positions ≤ p → p < 512 → i < l.string.width → bit (plane_at l.block.planes.items i) p ≡ 0;
}
