use Rattle.std.proofs.Common.{◌+◌, ◌*◌, ◌/◌, ◌∙◌, bit_and, ap, refl, arith}
use Rattle.std.proofs.Math.ListN.{set}
use Rattle.std.proofs.lemmas.Nat.{mul-add-lt, and_mask}
use Rattle.phase_gate.specs.Rows.{row_bit, room_word}
use Rattle.phase_gate.proofs.RowBits.{cell_bit, window_inside, window_outside}
use Rattle.phase_gate.proofs.rows.Rows.set_window.Goals as goal

pub index_mut-requires-2 : goal.index_mut-requires-2
index_mut-requires-2 c =
    let rows = c.args.self.now in
    let inside = mul-add-lt c.args.position rows.words (c.args.word + 1) rows.positions c.requires.position c.requires.word in
    omega arith

pub returns-clause-room : goal.returns-clause-room
unfolding room_word
returns-clause-room c = refl

pub returns-clause-inside : goal.returns-clause-inside
unfolding row_bit
returns-clause-inside c = λ j b.
    let rows = c.args.self.now in
    let cells = rows.cells.items in
    let place = c.args.position * rows.words + c.args.word in
    let inside = mul-add-lt c.args.position rows.words (c.args.word + 1) rows.positions c.requires.position c.requires.word in
    ap (λ k. cell_bit (set (set cells k (bit_and c.args.n 4294967295)) (k + 1) (c.args.n / 4294967296)) rows.words c.args.position (32 * c.args.word + j)) c.cell-at.ensures.place
    ∙ window_inside cells rows.words c.args.position c.args.word c.args.n _ _ (omega (arith, rows.cells.ok.0)) (and_mask c.args.n 32) refl j b

pub returns-clause-outside : goal.returns-clause-outside
unfolding row_bit
returns-clause-outside c = λ p i b apart.
    let rows = c.args.self.now in
    let cells = rows.cells.items in
    ap (λ k. cell_bit (set (set cells k (bit_and c.args.n 4294967295)) (k + 1) (c.args.n / 4294967296)) rows.words p i) c.cell-at.ensures.place
    ∙ window_outside cells rows.words c.args.position c.args.word _ _ c.requires.word p i b apart
