use Rattle.bit_planes.proofs.Numbers.{RowsRead, WordsRead}
use Rattle.bit_planes.proofs.rows.Rows.values.Given as goal

abbrev pub invariant-loop-row : goal.invariant-loop-row
invariant-loop-row l = RowsRead l.row l.self.planes l.v

abbrev pub invariant-loop-word : goal.invariant-loop-word
invariant-loop-word l = WordsRead l.row l.word l.self.planes l.v
