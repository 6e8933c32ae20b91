use Rattle.std.proofs.Common.{arith}
use Rattle.std.proofs.lemmas.Int.{to_z-of_z}
use Rattle.vp_sets.specs.Positions.{moved}
use Rattle.vp_sets.proofs.geometry.moved.Goals as goal

pub returns-clause-value : goal.returns-clause-value
unfolding moved
returns-clause-value c = grind (arith, to_z-of_z, c.rem_euclid.ensures.value, c.from.ensures, c.from-2.ensures, c.from-3.ensures)
