use Rattle.reduce_scan.proofs.CellWords.{JoinedTo}
use Rattle.reduce_scan.proofs.across.join_words.Given as goal

abbrev pub invariant-loop-n : goal.invariant-loop-n
invariant-loop-n l = JoinedTo l.fn.combiner l.fn.lines l.n l.initial.room.cells.items l.room.cells.items
