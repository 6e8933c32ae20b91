use Rattle.reduce_scan.proofs.WordRuns.{Walked}
use Rattle.reduce_scan.proofs.words.Run.walk.Given as goal

abbrev pub invariant-loop-i : goal.invariant-loop-i
invariant-loop-i g l = Walked l.self l.initial.words l.i l.total l.words
