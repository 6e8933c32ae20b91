use Rattle.std.proofs.Common.{◌<◌, arith}
use Rattle.cstar_lexer.specs.Quoted as Q
use Rattle.cstar_lexer.proofs.CharacterLemmas.{first_open, first_other}
use Rattle.cstar_lexer.proofs.NumberLemmas.{told}
use Rattle.cstar_lexer.proofs.quoted.closed.Goals as goal

pub returns-then-ends_line-clause-refused : goal.returns-then-ends_line-clause-refused
returns-then-ends_line-clause-refused c =
    told c.flaw.ensures.same c.flaw.ensures.at (first_open (Q.unclosed c.requires.begins c.requires.one (c.ends_line.ensures.ends c.if-ends_line.true)))

pub returns-then-rest-at-ne39-clause-refused : goal.returns-then-rest-at-ne39-clause-refused
returns-then-rest-at-ne39-clause-refused c =
    let small : c.args.byte < 256 = omega (arith, c.ranges.byte.fits) in
    told c.flaw-then-rest-at-ne39.ensures.same c.flaw-then-rest-at-ne39.ensures.at (first_other c.requires.begins c.requires.one small (c.ends_line.ensures.goes_on c.if-ends_line.false) c.if-rest-at-ne39.true)
