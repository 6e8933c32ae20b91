use Rattle.std.proofs.Common.{arith, pos, ◌<ℤ◌}
use Rattle.std.proofs.lemmas.Int.{ints, to_z-of_z}
use Rattle.cstar_base.proofs.OperatorLaws.{floor_rem_negative}
use Rattle.cstar_base.proofs.numbers.floor_remainder.Goals as goal

pub returns-else-y-gt0 : goal.returns-else-y-gt0
returns-else-y-gt0 c =
    let below : c.args.y <ℤ pos 0 = grind (arith, ints) in
    grind (arith, ints, to_z-of_z, floor_rem_negative c.args.x c.args.y below, c.rem_euclid-else-y-gt0.ensures.value)
