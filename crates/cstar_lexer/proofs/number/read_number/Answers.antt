use Rattle.std.proofs.Common.{arith}
use Rattle.cstar_lexer.proofs.NumberLemmas.{first_glued, first_wide, glued_some}
use Rattle.cstar_lexer.proofs.Longest.{byte_within}
use Rattle.cstar_lexer.proofs.number.read_number.Goals as goal

pub returns-in_default-clause-refused : goal.returns-in_default-clause-refused
returns-in_default-clause-refused c =
    let kept = c.read_constant-constant.ensures.longest in first_wide kept.constant (omega (arith, kept.cut, c.in_default.ensures))

pub returns-then-is_glued-clause-refused : goal.returns-then-is_glued-clause-refused
returns-then-is_glued-clause-refused c =
    let kept = c.read_constant-constant.ensures.longest in first_glued kept.constant (omega (arith, kept.cut, c.in-Some.ensures.0)) (cc)

pub returns-then-is_glued-clause-within : goal.returns-then-is_glued-clause-within
returns-then-is_glued-clause-within c = byte_within c.args.rest.now _ (λ e. glued_some _ (cc) e)
