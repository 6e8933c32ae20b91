use Rattle.std.proofs.Common.{◌∙◌, refl, sym}
use Rattle.cstar_lexer.specs.Quoted as Q
use Rattle.cstar_lexer.proofs.quoted.read_escape.Goals as goal

pub returns-in-Some-clause-is : goal.returns-in-Some-clause-is
returns-in-Some-clause-is c = (Q.letter c.requires (sym c.escape_letter.ensures.is ∙ c.in-Some.is) refl, c.in-Some.ensures.small)
