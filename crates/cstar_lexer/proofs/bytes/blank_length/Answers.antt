use Rattle.std.proofs.Common.{length, arith, sym}
use Rattle.std.proofs.lemmas.List.Sums.{prefix_len_is}
use Rattle.cstar_lexer.specs.Bytes.{is_inner_blank}
use Rattle.cstar_lexer.proofs.bytes.blank_length.Goals as goal

pub returns-then-not-is_blank-clause-run : goal.returns-then-not-is_blank-clause-run
returns-then-not-is_blank-clause-run c =
    sym (prefix_len_is is_inner_blank c.args.rest.now c.loop-at.at 0 (omega arith) c.loop-at.invariant (λ _. cc))

pub returns-clause-run : goal.returns-clause-run
returns-clause-run c =
    sym (prefix_len_is is_inner_blank c.args.rest.now (length c.args.rest.now) 0 (omega arith) (λ k h. c.loop-at.invariant k (omega arith)) (λ h. absurd (omega arith)))
