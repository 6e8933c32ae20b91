use Rattle.std.proofs.Common.{arith}
use Rattle.std.proofs.lemmas.Int.{to_z-of_z, ints}
use Rattle.cstar_base.proofs.NumberLaws.{residue_of_number, number_at_least, number_at_most, kind_bits}
use Rattle.cstar_base.proofs.numbers.value.Goals as goal

pub returns-clause-same : goal.returns-clause-same
returns-clause-same c = grind (arith, to_z-of_z, c.number.ensures, residue_of_number c.args.e.bits c.args.e.signed c.args.w c.requires)

pub returns-clause-least : goal.returns-clause-least
returns-clause-least c =
    omega (arith, ints, c.number.ensures, number_at_least c.args.e.bits c.args.e.signed c.args.w (kind_bits c.args.e.bits c.args.e.signed c.args.e.kind).0)

pub returns-clause-greatest : goal.returns-clause-greatest
returns-clause-greatest c =
    omega (arith, ints, c.number.ensures, number_at_most c.args.e.bits c.args.e.signed c.args.w (kind_bits c.args.e.bits c.args.e.signed c.args.e.kind).0 c.requires)
