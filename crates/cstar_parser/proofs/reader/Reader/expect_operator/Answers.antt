use Rattle.std.proofs.Common.{refl}
use Rattle.cstar_parser.proofs.Following.{no_operator}
use Rattle.cstar_parser.proofs.reader.Reader.expect_operator.Goals as goal

pub returns-then-not-is_mark-clause-stops : goal.returns-then-not-is_mark-clause-stops
returns-then-not-is_mark-clause-stops c = rw c.hopeless.ensures (refl, no_operator _ _ (c.is_mark.ensures.no c.if-not-is_mark.true))
