use Rattle.std.proofs.Common.{◌*◌, ◌+◌, ◌/◌, ◌%◌, ◌∙◌, eqb, ap, sym, refl, get_or, arith}
use Rattle.std.specs.Int.{bit_at}
use Rattle.std.proofs.lemmas.Bool.{le-ltb, cond-false, and_left}
use Rattle.std.proofs.lemmas.Nat.Bits.{bit_at-zero}
use Rattle.phase_gate.specs.Rows.{row_bit}
use Rattle.phase_gate.proofs.RowBits.{zeros}
use Rattle.phase_gate.proofs.rows.Rows.new.Goals as goal

pub contexts-init : goal.contexts-init
unfolding row_bit
contexts-init c = (
  refl,
  λ p i b.
      ap (λ xs. bit_at (get_or xs (p * (c.args.bits / 32 + 3) + i / 32) 0) (i % 32)) (c.in_ok-cells.ensures.items_if_clones_equal (λ y e. e))
      ∙ ap (λ n. bit_at n (i % 32)) (zeros _ (p * (c.args.bits / 32 + 3) + i / 32)) ∙ bit_at-zero (i % 32)
      ∙ sym (cond-false _ 1 0 (and_left _ (eqb i c.args.bits) (le-ltb p 0 (omega arith)))),
)
