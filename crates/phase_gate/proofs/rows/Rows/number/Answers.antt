use Rattle.std.proofs.Common.{◌≡◌, ◌/◌, ◌%◌, ◌^◌, ◌∙◌, ap, bit_and, arith}
use Rattle.std.proofs.lemmas.Nat.{and_mask, mod_below, pow_pos}
use Rattle.phase_gate.specs.Rows.{row_bit}
use Rattle.phase_gate.proofs.RowBits.{window_number}
use Rattle.phase_gate.proofs.rows.Rows.number.Goals as goal
use Rattle.phase_gate.proofs.rows.Rows.number.Goals.{After-from}

cut : (c : After-from) → bit_and (c.window-window.result / 2 ^ (c.args.offset % 32)) c.from.result ≡ c.window-window.result / 2 ^ (c.args.offset % 32) % 2 ^ c.args.len
cut c =
    ap (λ m. bit_and (c.window-window.result / 2 ^ (c.args.offset % 32)) m) (c.from.ensures ∙ c.mask.ensures)
    ∙ and_mask (c.window-window.result / 2 ^ (c.args.offset % 32)) c.args.len

pub returns-clause-value : goal.returns-clause-value
returns-clause-value c =
    cut c ∙ window_number (row_bit c.args.self.now c.args.position) c.args.offset c.args.len c.window-window.result c.requires.len.1 c.window-window.ensures

pub returns-clause-bound : goal.returns-clause-bound
returns-clause-bound c = omega (arith, cut c, mod_below (c.window-window.result / 2 ^ (c.args.offset % 32)) (2 ^ c.args.len) (pow_pos c.args.len))
