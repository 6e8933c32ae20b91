use Rattle.std.proofs.Common.{rules, arith, sym, ap, ◌∙◌, FitsSigned, w64}
use Rattle.std.proofs.lemmas.Int.{to_z-of_z}
use Rattle.std.proofs.lemmas.Grind.{common_steps}
use Rattle.cstar_base.specs.Numbers.{converted, truth_of}
use Rattle.cstar_base.proofs.ConversionLaws.{converted_to_bool, truth_of_bits}
use Rattle.cstar_base.proofs.numbers.convert.Goals as goal

pub returns-then-to-eq1-clause-value : goal.returns-then-to-eq1-clause-value
returns-then-to-eq1-clause-value c =
    let fits : FitsSigned w64 c.value-number.result = search rules in
    c.from.ensures
    ∙ sym (truth_of_bits c.value-number.result fits)
    ∙ ap truth_of c.value-number.ensures.value
    ∙ sym (converted_to_bool c.args.to c.args.from c.args.w c.if-to-eq1.true)

pub returns-else-to-eq1-clause-value : goal.returns-else-to-eq1-clause-value
unfolding converted
returns-else-to-eq1-clause-value c = grind (arith, to_z-of_z, common_steps)
