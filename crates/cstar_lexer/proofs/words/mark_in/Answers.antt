use Rattle.std.proofs.Common.{◌∙◌, ◌<◌, [], length, below_more, sym}
use Rattle.std.proofs.lemmas.List.{get_or-map, length-map}
use Rattle.std.specs.Cmp.Lexicographic.{bytes_decides}
use Rattle.cstar_lexer.proofs.words.mark_in.Goals as goal

pub returns-then-eq-clause-found : goal.returns-then-eq-clause-found
returns-then-eq-clause-found c =
    let i = c.loop-word.word-index in
    let h : i < length c.args.table.now = c.loop-word-test.true in
    let same = (bytes_decides c.as_bytes.result.now c.args.name.now).0 (sym c.eq.ensures ∙ c.if-eq.true) in
    (i, rw length-map h, get_or-map _ c.args.table.now i _ [] h ∙ (sym c.as_bytes.ensures.value ∙ same), get_or-map _ c.args.table.now i _ _ h)

pub loop-word-preserved : goal.loop-word-preserved
loop-word-preserved c = below_more _ _ c.loop-word.invariant (λ e.
    let i = c.loop-word.word-index in
    let h : i < length c.args.table.now = c.loop-word-test.true in
    let same = c.as_bytes.ensures.value ∙ (sym (get_or-map _ c.args.table.now i _ [] h) ∙ e) in
    let yes = (bytes_decides c.as_bytes.result.now c.args.name.now).1 same in
    cc (yes, c.eq.ensures, c.if-eq.false))
