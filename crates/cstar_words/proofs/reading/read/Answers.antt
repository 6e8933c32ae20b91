use Rattle.std.proofs.Common.{subst, true, false, ◌≡◌, List, arith}
use Rattle.clap.specs.Words.{Row}
use Rattle.cstar_words.proofs.Whole.{whole, unfit, unwhole}
use Rattle.cstar_words.proofs.reading.read.Goals as goal

pub returns-in-Err-clause-refused : goal.returns-in-Err-clause-refused
returns-in-Err-clause-refused c is = unfit _ (c.in-Err.ensures.refused is)

pub returns-in-Some-clause-command : goal.returns-in-Some-clause-command
returns-in-Some-clause-command c = whole _ _ c.in-Some.options c.in-Ok.ensures.fits c.in-Ok.ensures.rows c.in-Some.ensures.reads

pub returns-clause-refused : goal.returns-clause-refused
returns-clause-refused c is = unwhole _ _ c.in-Ok.ensures.rows c.in-None.ensures.none
