use Rattle.std.proofs.Common.{◌≡◌, ℕ, ◌+◌, ◌*◌, ◌<◌, ◌≤◌, drop}
use Rattle.paris_code.specs.Shapes.{shapes_of}
use Rattle.point_bits.specs.Strings.{bit_count, byte_bit, set_size, start_of}
use Rattle.point_bits.proofs.putting_back.are_bits.Given as goal

abbrev pub invariant-sets : goal.invariant-sets
invariant-sets l = record {
  rest : l.rest ≡ drop (start_of (shapes_of l.sound) l.set) l.bytes;
  filled : (set n : ℕ) → set < l.set → bit_count (shapes_of l.sound) set ≤ n → n < 8 * set_size (shapes_of l.sound) set → byte_bit l.bytes (8 * start_of (shapes_of l.sound) set + n) ≡ 0;
}
