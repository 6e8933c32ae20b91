use Rattle.std.proofs.Common.{refl, arith}
use Rattle.std.specs.Prelude.{slice_index}
use Rattle.bit_planes.proofs.Words.{word_none}
use Rattle.elementwise.proofs.Failing.{word_first}
use Rattle.elementwise.proofs.checks.first_lane.Goals as goal

pub words-init : goal.words-init
words-init c = λ i h. absurd (omega (arith, h))

pub returns-then-word-ne0-clause-before : goal.returns-then-word-ne0-clause-before
returns-then-word-ne0-clause-before c = λ i b h.
    (word_first c.args.plane c.words.j (slice_index c.args.plane c.words.j) _ refl (omega (arith, c.if-word-ne0.true)) c.words-test.element_fits.fits refl c.words.invariant).1 i h

pub returns-then-word-ne0-clause-here : goal.returns-then-word-ne0-clause-here
returns-then-word-ne0-clause-here c = λ h.
    (word_first c.args.plane c.words.j (slice_index c.args.plane c.words.j) _ refl (omega (arith, c.if-word-ne0.true)) c.words-test.element_fits.fits refl c.words.invariant).2

pub words-preserved : goal.words-preserved
words-preserved c = word_none c.args.plane c.words.j c.if-word-ne0.false c.words.invariant

pub returns-clause-before : goal.returns-clause-before
returns-clause-before c = λ i b h. c.words.invariant i (omega (arith, b, c.words-test.false))
