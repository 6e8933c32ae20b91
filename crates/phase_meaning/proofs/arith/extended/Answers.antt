use Rattle.std.proofs.Common.{◌+◌, ◌-◌, ap, sym, ◌∙◌, arith}
use Rattle.phase_meaning.proofs.Operations.{word, word_lower, word_upper, word_plain}
use Rattle.phase_meaning.proofs.arith.extended.Goals as goal

pub returns-then-not-signed : goal.returns-then-not-signed
returns-then-not-signed c = word_plain c.args.len c.args.signed c.args.n c.requires.len.1 c.requires.number c.if-not-signed.true

pub returns-then-n-ones : goal.returns-then-n-ones
returns-then-n-ones c =
    word_lower c.args.len c.args.n c.requires.len.0 c.requires.len.1 (omega arith)
    ∙ ap (λ s. word c.args.len s c.args.n) (sym c.if-not-signed.false)

pub returns-else-n-ones : goal.returns-else-n-ones
returns-else-n-ones c =
    ap (λ m. c.args.n + (4294967295 - m)) c.mask-ones.ensures
    ∙ word_upper c.args.len c.args.n c.requires.len.0 c.requires.len.1 c.requires.number (omega arith)
    ∙ ap (λ s. word c.args.len s c.args.n) (sym c.if-not-signed.false)
