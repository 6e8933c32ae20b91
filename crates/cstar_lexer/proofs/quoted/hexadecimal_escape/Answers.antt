use Rattle.std.proofs.Common.{arith, refl}
use Rattle.cstar_lexer.specs.Quoted as Q
use Rattle.cstar_lexer.proofs.QuotedLemmas.{bad_hexadecimal, numeric_escape}
use Rattle.cstar_lexer.proofs.quoted.hexadecimal_escape.Goals as goal

pub returns-then-digits-eq0-clause-is : goal.returns-then-digits-eq0-clause-is
returns-then-digits-eq0-clause-is c =
    let run = rw c.tail.ensures at c.read_digits-digits.ensures.run in
    bad_hexadecimal c.args.rest.now _ c.requires.begins c.requires.x c.requires.on_line run c.if-digits-eq0.true

pub returns-clause-is : goal.returns-clause-is
returns-clause-is c =
    let run = rw c.tail.ensures at c.read_digits-digits.ensures.run in
    let value = rw c.tail.ensures at c.read_digits-digits.ensures.value in
    numeric_escape _ c.args.rest.now _ _ _ value (Q.hexadecimal c.requires.begins c.requires.x run (omega arith) refl refl) c.numeric.ensures
