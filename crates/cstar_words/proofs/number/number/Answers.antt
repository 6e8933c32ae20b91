use Rattle.std.proofs.Common.{ap, sym, ◌∙◌, refl, List, ℕ}
use Rattle.std.specs.Prelude.{slice_get}
use Rattle.cstar_words.proofs.Spelling.{plain, read_in, read_none}
use Rattle.cstar_words.proofs.number.number.Goals as goal

pub returns-in_default : goal.returns-in_default
returns-in_default c =
    let unsigned = plain c.first.result c.args.text.now _ refl c.if-eq.ensures (c.first.ensures.value ∙ ap (λ (bytes : List ℕ). slice_get bytes 0) c.as_bytes.ensures.value) in
    sym (read_none _ c.args.low c.args.high c.args.text.now c.in_default.field-0 c.ranges.high.fits unsigned c.in_default.ensures.value.0)

pub returns-then-value-high : goal.returns-then-value-high
returns-then-value-high c =
    let unsigned = plain c.first.result c.args.text.now _ refl c.if-eq.ensures (c.first.ensures.value ∙ ap (λ (bytes : List ℕ). slice_get bytes 0) c.as_bytes.ensures.value) in
    sym (read_in ℕ c.args.low c.args.high c.args.text.now c.in-Ok.value unsigned c.in-Ok.ensures.value.0 c.if-low-value.true c.if-value-high.true)
