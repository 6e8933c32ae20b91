use Rattle.std.proofs.Common.{sym, length, length-take-le}
use Rattle.vp_sets.proofs.PositionLaws.{geometry_parts}
use Rattle.vp_sets.proofs.geometry.Geometry.new.Goals as goal

pub slice_bounds-held-end : goal.slice_bounds-held-end
slice_bounds-held-end c = (geometry_parts c.args.extents.now (sym c.if-not-is_geometry.ensures)).1

pub slice_bounds-copy_from_slice-end : goal.slice_bounds-copy_from_slice-end
slice_bounds-copy_from_slice-end c = sym (length-take-le (length c.args.extents.now) _ (geometry_parts c.args.extents.now (sym c.if-not-is_geometry.ensures)).1)

pub copy_from_slice-requires : goal.copy_from_slice-requires
copy_from_slice-requires c = length-take-le (length c.args.extents.now) _ (geometry_parts c.args.extents.now (sym c.if-not-is_geometry.ensures)).1
