use Rattle.std.proofs.Common.{◌≡◌, ℕ, ◌+◌, ◌/◌, ◌%◌, ◌^◌, ◌<◌, length, get_or}
use Rattle.std.specs.Int.{bit_at}
use Rattle.phase_gate.specs.Rows.{memory_of}
use Rattle.phase_gate.proofs.row_phases.RowPhases.block_numbers.Given as goal

abbrev pub invariant-positions : goal.invariant-positions
invariant-positions l = record {
  long : length l.words ≡ 512;
  small : (lane : ℕ) → lane < 512 → get_or l.words lane 0 < 2 ^ l.run.len;
  bits : (p j : ℕ) → p / 512 ≡ l.block → p < l.position → j < l.run.len → bit_at (get_or l.words (p % 512) 0) j ≡ (memory_of l.self).bit l.run.set p (l.run.offset + j);
}
