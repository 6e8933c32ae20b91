use Rattle.std.proofs.Common.{◌∙◌, ap, sym}
use Rattle.cstar_lexer.specs.Dispatch.{mark_of_one}
use Rattle.cstar_lexer.proofs.MarkLemmas.{longest_one, longest_three, longest_two, no_mark}
use Rattle.cstar_lexer.proofs.words.read_punctuator.Goals as goal

pub returns-in-Some-clause-found : goal.returns-in-Some-clause-found
returns-in-Some-clause-found c = longest_three c.args.rest.now _ (cc c.in-Some.ensures.spelled)

pub returns-in-Some-of_two-clause-found : goal.returns-in-Some-of_two-clause-found
returns-in-Some-of_two-clause-found c = longest_two c.args.rest.now _ (cc) (cc c.in-Some-of_two.ensures.spelled)

pub returns-in_err-mark-clause-none : goal.returns-in_err-mark-clause-none
returns-in_err-mark-clause-none c = rw c.from_residual.ensures (no_mark c.args.rest.now (cc) (cc) (ap mark_of_one (sym c.byte_or_zero-first.ensures) ∙ (sym c.of_one.ensures.is ∙ c.in_err-mark.was)))

pub returns-clause-found : goal.returns-clause-found
returns-clause-found c = longest_one c.args.rest.now _ (cc) (cc) (cc c.in_ok-mark.ensures.spelled)
