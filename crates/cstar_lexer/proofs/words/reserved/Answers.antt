use Rattle.std.proofs.Common.{arith}
use Rattle.cstar_lexer.proofs.Table.{if_found, if_no_four, if_no_long, if_no_middle, if_no_short, long_marks, middle_marks, of_four_marks, short_marks}
use Rattle.cstar_lexer.proofs.words.reserved.Goals as goal

pub returns-then-length-lt4-clause-found : goal.returns-then-length-lt4-clause-found
returns-then-length-lt4-clause-found c = if_found short_marks _ _ c.mark_in.ensures.found

pub returns-then-length-lt4-clause-none : goal.returns-then-length-lt4-clause-none
returns-then-length-lt4-clause-none c = if_no_short _ _ c.if-length-lt4.true c.mark_in.ensures.none

pub returns-then-length-eq4-clause-found : goal.returns-then-length-eq4-clause-found
returns-then-length-eq4-clause-found c = if_found of_four_marks _ _ c.mark_in-then-length-eq4.ensures.found

pub returns-then-length-eq4-clause-none : goal.returns-then-length-eq4-clause-none
returns-then-length-eq4-clause-none c = if_no_four _ _ c.if-length-eq4.true c.mark_in-then-length-eq4.ensures.none

pub returns-then-length-lt7-clause-found : goal.returns-then-length-lt7-clause-found
returns-then-length-lt7-clause-found c = if_found middle_marks _ _ c.mark_in-then-length-lt7.ensures.found

pub returns-then-length-lt7-clause-none : goal.returns-then-length-lt7-clause-none
returns-then-length-lt7-clause-none c = if_no_middle _ _ (omega (arith, c.if-length-lt4.false, c.if-length-eq4.false)) c.if-length-lt7.true c.mark_in-then-length-lt7.ensures.none

pub returns-else-length-lt7-clause-found : goal.returns-else-length-lt7-clause-found
returns-else-length-lt7-clause-found c = if_found long_marks _ _ c.mark_in-else-length-lt7.ensures.found

pub returns-else-length-lt7-clause-none : goal.returns-else-length-lt7-clause-none
returns-else-length-lt7-clause-none c = if_no_long _ _ c.if-length-lt7.false c.mark_in-else-length-lt7.ensures.none
