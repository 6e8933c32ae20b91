use Rattle.cstar_lexer.proofs.Longest.{longest_constant, within_constant}
use Rattle.cstar_lexer.proofs.number.read_constant.Goals as goal

pub returns : goal.returns
returns c =
    let longest = longest_constant c.args.rest.now _ _ _ _ c.read_numeral-digits.ensures.longest (rw (← c.tail.ensures) c.read_suffix-suffix.ensures.longest) in
    record { within = within_constant longest.constant.constant; longest = longest }
