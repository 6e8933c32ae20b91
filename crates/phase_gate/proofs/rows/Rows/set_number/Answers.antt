use Rattle.std.proofs.Common.{◌≡◌, ℕ, ◌+◌, ◌-◌, ◌*◌, ◌/◌, ◌%◌, ◌^◌, ◌<◌, ◌≤◌, ◌∙◌, bit_and, ap, sym, inl, inr, arith}
use Rattle.std.specs.Int.{bit_at}
use Rattle.std.proofs.lemmas.Nat.{and_mask, mod_below, pow_pos}
use Rattle.std.proofs.lemmas.Bool.{cases_lt, cases_eq}
use Rattle.phase_gate.specs.Rows.{row_bit}
use Rattle.phase_gate.proofs.RowBits.{replaced, replaces, changed_inside, changed_outside}
use Rattle.cstar_base.proofs.BitCuts.{bit_at-cut}
use Rattle.phase_gate.proofs.rows.Rows.set_number.Goals as goal
use Rattle.phase_gate.proofs.rows.Rows.set_number.Goals.{After-from}

abbrev Window : (window s len ones n : ℕ) → Type 0
Window window s len ones n =
    let less = bit_and (window / 2 ^ s) ones * 2 ^ s % 2 ^ 64 in
    let more = bit_and n ones * 2 ^ s % 2 ^ 64 in
    (less ≤ window) × (window - less + more < 2 ^ 64) × (window - less + more ≡ replaced window s len (bit_and n ones)) × (bit_and n ones ≡ n % 2 ^ len)

window_is : (w s len ones n : ℕ) → ones ≡ 2 ^ len - 1 → s + len ≤ 64 → w < 2 ^ 64 → Window w s len ones n
window_is w s len ones n are within fits =
    let held = ap (bit_and (w / 2 ^ s)) are ∙ and_mask (w / 2 ^ s) len in
    let number = ap (bit_and n) are ∙ and_mask n len in
    let all = replaces w s len (bit_and (w / 2 ^ s) ones) (bit_and n ones) within fits (omega (arith, mod_below n (2 ^ len) (pow_pos len))) held in
    (all.0, all.1, all.2, number)

window : (c : After-from) → Window c.window-window.result (c.args.offset % 32) c.args.len c.from-ones.result c.from.result
window c = window_is c.window-window.result (c.args.offset % 32) c.args.len c.from-ones.result c.from.result (c.from-ones.ensures ∙ c.mask.ensures) (omega arith) c.window-window.type_inv

pub overflow_sub-changed : goal.overflow_sub-changed
overflow_sub-changed c = (window c).0

pub overflow_add-changed : goal.overflow_add-changed
overflow_add-changed c = record { fits = (window c).1 }

pub returns-clause-inside : goal.returns-clause-inside
returns-clause-inside c = λ i l h.
    let ones = c.from-ones.ensures ∙ c.mask.ensures in
    let s = c.args.offset % 32 in
    let w = window_is c.window-window.result s c.args.len c.from-ones.result c.from.result ones (omega arith) c.window-window.type_inv in
    let n = bit_and c.from.result c.from-ones.result in
    changed_inside (row_bit c.args.self.now c.args.position) (row_bit c.set_window.new.self c.args.position) c.args.offset c.args.len n c.window-window.result _ c.requires.len.1
    (omega (arith, w.3, mod_below c.from.result (2 ^ c.args.len) (pow_pos c.args.len))) c.window-window.ensures w.2 c.set_window.ensures.inside i l h
    ∙ ap (λ x. bit_at x (i - c.args.offset)) w.3 ∙ bit_at-cut c.from.result c.args.len (i - c.args.offset) (omega arith)
    ∙ ap (λ x. bit_at x (i - c.args.offset)) c.from.ensures

pub returns-clause-outside : goal.returns-clause-outside
returns-clause-outside c = λ p i b apart.
    let ones = c.from-ones.ensures ∙ c.mask.ensures in
    let s = c.args.offset % 32 in
    let w = window_is c.window-window.result s c.args.len c.from-ones.result c.from.result ones (omega arith) c.window-window.type_inv in
    let n = bit_and c.from.result c.from-ones.result in
    let far = c.set_window.ensures.outside p i (omega arith) in
    elim (cases_eq p c.args.position) [
      | inr n ↦ far (inl n)
      | inl e ↦ elim (cases_lt i (32 * (c.args.offset / 32))) [
        | inl below ↦ far (inr (inl below))
        | inr from ↦ elim (cases_lt i (32 * (c.args.offset / 32) + 64)) [
          | inr above ↦ far (inr (inr above))
          | inl within ↦
              ap (λ q. row_bit c.set_window.new.self q i) e
              ∙ changed_outside (row_bit c.args.self.now c.args.position) (row_bit c.set_window.new.self c.args.position) c.args.offset c.args.len n c.window-window.result _ c.requires.len.1
              (omega (arith, w.3, mod_below c.from.result (2 ^ c.args.len) (pow_pos c.args.len))) c.window-window.ensures w.2 c.set_window.ensures.inside i from within
              (elim apart [ inl n ↦ absurd (n e) | inr out ↦ out ])
              ∙ ap (λ q. row_bit c.args.self.now q i) (sym e)
        ]
      ]
    ]
