use Rattle.std.proofs.Common.{◌∙◌, sym, arith}
use Rattle.std.proofs.lemmas.Int.{ints}
use Rattle.cstar_base.proofs.NumberLaws.{number_if_below_zero, number_if_not_below_zero, modulus_in_word}
use Rattle.cstar_base.proofs.numbers.number.Goals as goal

pub returns-then-is_below_zero : goal.returns-then-is_below_zero
returns-then-is_below_zero c =
    omega (arith, ints, c.from.ensures, c.residue_count.ensures, modulus_in_word c.args.e.bits c.args.e.signed c.args.e.kind)
    ∙ sym (number_if_below_zero c.args.e.bits c.args.e.signed c.args.w c.if-is_below_zero.ensures)

pub returns-else-is_below_zero : goal.returns-else-is_below_zero
returns-else-is_below_zero c =
    omega (arith, ints, c.from-else-is_below_zero.ensures)
    ∙ sym (number_if_not_below_zero c.args.e.bits c.args.e.signed c.args.w c.if-is_below_zero.ensures)
