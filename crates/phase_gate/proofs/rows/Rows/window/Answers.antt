use Rattle.std.proofs.Common.{◌≡◌, ◌+◌, ◌*◌, ◌^◌, ◌<◌, ◌∙◌, ap, get_or, lit≤, arith}
use Rattle.std.proofs.lemmas.List.{get_or_read}
use Rattle.std.proofs.lemmas.Nat.{mul-add-lt, shl_whole}
use Rattle.phase_gate.specs.Rows.{row_bit}
use Rattle.phase_gate.proofs.RowBits.{window_bit}
use Rattle.phase_gate.proofs.rows.Rows.window.Goals as goal

pub index-requires-2 : goal.index-requires-2
index-requires-2 c =
    let rows = c.args.self.now in
    let inside = mul-add-lt c.args.position rows.words (c.args.word + 1) rows.positions c.requires.position c.requires.word in
    omega arith

pub returns : goal.returns
unfolding row_bit
returns c =
    let rows = c.args.self.now in
    let cells = rows.cells.items in
    let place = c.args.position * rows.words + c.args.word in
    let inside = mul-add-lt c.args.position rows.words (c.args.word + 1) rows.positions c.requires.position c.requires.word in
    let at : c.cell-at.result ≡ place = c.cell-at.ensures.place in
    let low : c.from.result ≡ get_or cells place 0 =
    c.from.ensures ∙ get_or_read cells c.cell-at.result c.index.result.now (omega (arith, rows.cells.ok.0)) c.index.ensures 0 ∙ ap (λ k. get_or cells k 0) at in
    let high : c.from-2.result ≡ get_or cells (place + 1) 0 =
    c.from-2.ensures ∙ get_or_read cells (c.cell-at.result + 1) c.index-2.result.now (omega (arith, rows.cells.ok.0)) c.index-2.ensures 0 ∙ ap (λ k. get_or cells (k + 1) 0) at in
    let fits : get_or cells place 0 < 2 ^ 32 = omega arith in
    let top : c.from-2.result < 2 ^ 32 = omega arith in
    let shifted = shl_whole c.from-2.result 32 32 64 top (lit≤ tt) in
    window_bit cells rows.words c.args.position c.args.word _ fits (omega arith)
