use Rattle.std.proofs.Common.{arith, below_more, refl, ◌∙◌, sym}
use Rattle.std.proofs.lemmas.List.Sums.{prefix_len_is}
use Rattle.cstar_lexer.specs.Constants.{is_digit, value_of}
use Rattle.cstar_lexer.proofs.ConstantLemmas.{capped_more, value_more}
use Rattle.cstar_lexer.proofs.number.read_digits.Goals as goal

pub loop-byte-init : goal.loop-byte-init
unfolding value_of
loop-byte-init c = record { counted = refl; passed = λ k h. absurd (omega arith); capped = refl }

pub loop-byte-preserved : goal.loop-byte-preserved
loop-byte-preserved c =
    let i = c.loop-byte.byte-index in
    let h = c.in-Some.ensures.digit in record {
      counted = omega arith;
      passed = below_more _ _ c.loop-byte.invariant.passed h.0;
      capped = rw (value_more c.args.radix i c.args.rest.now c.loop-byte-test.true, ← h.1) (capped_more _ _ _ _ _ c.requires.some c.loop-byte.invariant.capped c.min-value.ensures);
    }

pub returns-after-loop-byte-clause-run : goal.returns-after-loop-byte-clause-run
returns-after-loop-byte-clause-run c =
    c.loop-byte.invariant.counted ∙ sym (prefix_len_is (is_digit c.args.radix) c.args.rest.now c.loop-byte.byte-index 0 (omega arith) c.loop-byte.invariant.passed (λ below. absurd (omega arith)))

pub returns-in-None-clause-run : goal.returns-in-None-clause-run
returns-in-None-clause-run c =
    c.loop-byte.invariant.counted ∙ sym (prefix_len_is (is_digit c.args.radix) c.args.rest.now c.loop-byte.byte-index 0 (omega arith) c.loop-byte.invariant.passed (λ below. c.in-None.ensures.none))
