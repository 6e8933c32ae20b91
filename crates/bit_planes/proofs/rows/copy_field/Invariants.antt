use Rattle.bit_planes.proofs.Numbers.{Copied, Cut}
use Rattle.bit_planes.proofs.rows.copy_field.Given as goal

abbrev pub invariant-loop-j : goal.invariant-loop-j
invariant-loop-j l = Copied l.offset l.j l.planes l.to

abbrev pub invariant-above : goal.invariant-above
invariant-above l = Cut l.offset l.len l.j l.planes l.to
