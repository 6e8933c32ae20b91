use Rattle.reduce_scan.proofs.WordRuns.{Chosen}
use Rattle.reduce_scan.proofs.words.rows_chosen.Given as goal

abbrev pub invariant-loop-j : goal.invariant-loop-j
invariant-loop-j l = Chosen l.block.planes.items l.offset l.context l.other l.j l.planes
