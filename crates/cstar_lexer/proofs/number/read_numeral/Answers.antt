use Rattle.std.proofs.Common.{refl}
use Rattle.cstar_lexer.proofs.Longest.{decimal_numeral, hexadecimal_numeral, octal_numeral, two_before, within_numeral}
use Rattle.cstar_lexer.proofs.number.read_numeral.Goals as goal

pub returns-then-byte_or_zero-ne48 : goal.returns-then-byte_or_zero-ne48
returns-then-byte_or_zero-ne48 c =
    let longest = decimal_numeral c.args.rest.now _ _ c.requires (λ zero. c.if-byte_or_zero-ne48.true (cc)) c.read_digits.ensures.run c.read_digits.ensures.value in
    record { within = within_numeral longest.numeral; longest = longest }

pub returns-then-not-is_hexadecimal : goal.returns-then-not-is_hexadecimal
returns-then-not-is_hexadecimal c =
    let longest = octal_numeral c.args.rest.now _ _ c.requires (cc) (cc) c.read_digits-then-not-is_hexadecimal.ensures.run c.read_digits-then-not-is_hexadecimal.ensures.value in
    record { within = within_numeral longest.numeral; longest = longest }

pub tail-requires : goal.tail-requires
tail-requires c = two_before c.args.rest.now (cc)

pub returns : goal.returns
returns c =
    let run = rw c.tail.ensures at c.read_digits-behind.ensures.run in
    let value = rw c.tail.ensures at c.read_digits-behind.ensures.value in
    let longest = hexadecimal_numeral c.args.rest.now _ _ _ (cc) run refl value in
    record { within = within_numeral longest.numeral; longest = longest }
