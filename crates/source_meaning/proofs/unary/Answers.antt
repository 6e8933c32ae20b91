use Rattle.std.proofs.Common.{sym, true, arith}
use Rattle.cstar_base.proofs.OperatorLaws.{difference_by_residues}
use Rattle.source_meaning.specs.Values.{unary_of}
use Rattle.source_meaning.proofs.unary.Goals as goal

pub returns-in-Minus : goal.returns-in-Minus
unfolding unary_of
returns-in-Minus c = rw c.in-Minus.is (sym (difference_by_residues 32 true 0 c.args.word (omega arith)))
