use Rattle.std.proofs.Common.{slice_index_or}
use Rattle.std.proofs.lemmas.List.{get_or_default}
use Rattle.paris_code.specs.declared.operands.Coordinate.{Coordinate}
use Rattle.paris_code.specs.declared.operands.Coordinate.TheVariants as C
use Rattle.paris_code.specs.Spans.{fields_of_coordinate}
use Rattle.cstar_link.proofs.Ends.{raised_step}
use Rattle.cstar_link.proofs.sets.raise_by_coordinates.Goals as goal

pub loop-coordinate-preserved : goal.loop-coordinate-preserved
loop-coordinate-preserved c =
    let l = c.loop-coordinate in
    let all = c.args.coordinates.now in
    let none : Coordinate = C.Field (record { set = 0; offset = 0; len = 0 }) in
    let this = slice_index_or all l.coordinate-index none in
    let inside = c.loop-coordinate-test.true in
    raised_step fields_of_coordinate all l.coordinate-index this c.args.ends.now l.ends c.raise_by_coordinate.new.ends (get_or_default all l.coordinate-index none this inside) inside l.auto.ends l.invariant c.raise_by_coordinate.ensures
