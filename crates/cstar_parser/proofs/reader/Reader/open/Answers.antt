use Rattle.std.proofs.Common.{refl}
use Rattle.cstar_parser.proofs.Following.{not_mark}
use Rattle.cstar_parser.proofs.reader.Reader.«open».Goals as goal

pub returns-then-not-is_mark-clause-stops : goal.returns-then-not-is_mark-clause-stops
returns-then-not-is_mark-clause-stops c = rw c.hopeless.ensures (refl, not_mark _ _ (c.is_mark.ensures.no c.if-not-is_mark.true))
