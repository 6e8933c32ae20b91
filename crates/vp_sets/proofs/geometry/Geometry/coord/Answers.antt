use Rattle.std.proofs.Common.{sym}
use Rattle.vp_sets.proofs.PositionLaws.{coordinate_by_stride, number_of_coordinates, geometry_parts}
use Rattle.vp_sets.proofs.geometry.Geometry.coord.Goals as goal

pub returns-clause-value : goal.returns-clause-value
returns-clause-value c =
    rw (c.stride.ensures.value, c.extent.ensures.value) (sym (coordinate_by_stride c.args.self.now c.args.n c.args.axis c.requires.axis))

pub returns-clause-number : goal.returns-clause-number
returns-clause-number c = number_of_coordinates c.args.self.now c.args.n (geometry_parts c.args.self.now c.extent.ensures.valid).2 c.requires.position
