use Rattle.reduce_scan.proofs.ExtremeNumbers.{Narrowed}
use Rattle.reduce_scan.proofs.folds.FieldFold.extreme.Given as goal

abbrev pub invariant-loop-n : goal.invariant-loop-n
invariant-loop-n l = Narrowed l.greatest l.unsigned l.block.planes.items l.self.source l.self.context l.n l.left l.total
