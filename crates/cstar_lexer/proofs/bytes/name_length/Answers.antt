use Rattle.std.proofs.Common.{length, arith, sym}
use Rattle.std.proofs.lemmas.List.Sums.{prefix_len_is}
use Rattle.cstar_lexer.specs.Bytes.{goes_on}
use Rattle.cstar_lexer.proofs.bytes.name_length.Goals as goal

pub returns-then-not-continues_name-clause-run : goal.returns-then-not-continues_name-clause-run
returns-then-not-continues_name-clause-run c =
    sym (prefix_len_is goes_on c.args.rest.now c.loop-at.at 0 (omega arith) c.loop-at.invariant (λ _. cc))

pub returns-clause-run : goal.returns-clause-run
returns-clause-run c =
    sym (prefix_len_is goes_on c.args.rest.now (length c.args.rest.now) 0 (omega arith) (λ k h. c.loop-at.invariant k (omega arith)) (λ h. absurd (omega arith)))
