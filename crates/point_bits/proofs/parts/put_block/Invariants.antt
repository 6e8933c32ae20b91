use Rattle.std.proofs.Common.{◌≡◌, ℕ, ◌*◌, ◌<◌, ◌≤◌, get_or, length}
use Rattle.bit_planes.specs.Bits.{bit}
use Rattle.bit_planes.specs.Planes.{plane_at}
use Rattle.point_bits.specs.Strings.{byte_bit, string_at}
use Rattle.point_bits.proofs.Copies.{Copied}
use Rattle.point_bits.proofs.parts.put_block.Given as goal

abbrev pub invariant-runs : goal.invariant-runs
invariant-runs l = record {
  long : length l.bytes ≡ length l.fn.bytes;
  small : (k : ℕ) → get_or l.bytes k 0 < 256;
  copied : Copied l.string.positions l.string.width 0 (32 * l.number) (λ p i. bit (plane_at l.block.planes.items i) p) (string_at l.string.width l.bytes);
  behind : (n : ℕ) → l.string.positions * l.string.width ≤ n → byte_bit l.bytes n ≡ 0;
}
