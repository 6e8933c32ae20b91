use Rattle.std.proofs.Common.{arith, refl}
use Rattle.cstar_lexer.specs.Quoted as Q
use Rattle.cstar_lexer.proofs.QuotedLemmas.{numeric_escape, three_digits}
use Rattle.cstar_lexer.proofs.quoted.octal_escape.Goals as goal

pub returns-clause-is : goal.returns-clause-is
returns-clause-is c =
    let digits = three_digits c.args.rest.now _ _ c.requires.some c.min.ensures c.read_digits-digits.ensures.run in
    let value = rw digits.1 at c.read_digits-digits.ensures.value in
    numeric_escape _ c.args.rest.now _ _ _ value (Q.octal c.requires.begins digits.0 (omega arith) refl refl) c.numeric.ensures
