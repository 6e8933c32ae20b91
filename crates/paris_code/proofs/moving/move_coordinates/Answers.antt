use Rattle.std.proofs.Common.{◌≡◌, ◌<◌, ap, ◌∙◌, arith, length, slice_index_or, slice_set}
use Rattle.std.proofs.lemmas.List.Edits.{map_over_more}
use Rattle.std.proofs.lemmas.List.{get_or_default}
use Rattle.paris_code.specs.Moving.{moved_coordinate}
use Rattle.paris_code.specs.declared.operands.Coordinate.{Coordinate}
use Rattle.paris_code.specs.declared.operands.Coordinate.TheVariants as C
use Rattle.paris_code.proofs.moving.move_coordinates.Goals as goal

pub loop-coordinate-preserved : goal.loop-coordinate-preserved
loop-coordinate-preserved c =
    let l = c.loop-coordinate in
    let k = l.coordinate-index in
    let old : Coordinate = C.Field (record { set = 0; offset = 0; len = 0 }) in
    let d = slice_index_or l.coordinates k old in
    let inside : k < length l.coordinates = omega (arith, l.auto.coordinates, c.loop-coordinate-test.true) in
    ap (slice_set l.coordinates k) c.moved.ensures
    ∙ map_over_more (moved_coordinate c.args.places.now) c.args.coordinates.now l.coordinates k d (omega (arith, c.loop-coordinate-test.true)) l.invariant (get_or_default l.coordinates k old d inside)
