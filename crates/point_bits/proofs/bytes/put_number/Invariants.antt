use Rattle.point_bits.proofs.Packed.{PutUntil}
use Rattle.point_bits.proofs.bytes.put_number.Given as goal

abbrev pub invariant-windows : goal.invariant-windows
invariant-windows l = PutUntil l.at l.len l.number l.k l.initial.bytes l.bytes
