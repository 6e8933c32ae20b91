use Rattle.std.proofs.Common.{arith}
use Rattle.std.proofs.lemmas.Int.{to_z-of_z}
use Rattle.cstar_base.specs.Numbers.{residue}
use Rattle.cstar_base.proofs.numbers.wrap.Goals as goal

pub returns-clause-value : goal.returns-clause-value
unfolding residue
returns-clause-value c = grind (arith, to_z-of_z, c.rem_euclid.ensures.value, c.residue_count.ensures)
