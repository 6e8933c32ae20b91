use Rattle.std.proofs.Common.{◌≡◌, ℕ, ◌+◌, ◌*◌, ◌/◌, ◌%◌, ◌<◌, length, get_or}
use Rattle.std.specs.Int.{bit_at}
use Rattle.point_bits.specs.Strings.{string_at}
use Rattle.point_bits.proofs.strings.SetString.numbers.Given as goal

abbrev pub invariant-lanes : goal.invariant-lanes
invariant-lanes l = record {
  long : length l.words ≡ 512;
  bits : (p j : ℕ) → p / 512 ≡ l.block → p < 512 * l.block + l.lane → j < l.run.len → bit_at (get_or l.words (p % 512) 0) j ≡ string_at l.self.width l.bytes p (l.run.offset + j);
}
