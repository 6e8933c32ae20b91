use Rattle.point_bits.proofs.Packed.{ReadUntil}
use Rattle.point_bits.proofs.bytes.number_at.Given as goal

abbrev pub invariant-windows : goal.invariant-windows
invariant-windows l = ReadUntil l.at l.k l.window l.bytes
