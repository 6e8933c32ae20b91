use Rattle.std.proofs.Common.{slice_index_or, false}
use Rattle.std.proofs.lemmas.List.{get_or_default}
use Rattle.paris_code.specs.declared.operands.Coordinate.TheVariants as C
use Rattle.paris_code.specs.declared.operands.SignedCoordinate.{SignedCoordinate}
use Rattle.paris_code.specs.Operands.{coordinate_of}
use Rattle.paris_code.specs.Spans.{fields_of_coordinate}
use Rattle.cstar_link.proofs.Ends.{raised_step}
use Rattle.cstar_link.proofs.sets.raise_by_checked.Goals as goal

pub loop-checked-preserved : goal.loop-checked-preserved
loop-checked-preserved c =
    let l = c.loop-checked in
    let all = c.args.coordinates.now in
    let none : SignedCoordinate = record { coordinate = C.Field (record { set = 0; offset = 0; len = 0 }); signed = false } in
    let this = slice_index_or all l.checked-index none in
    let inside = c.loop-checked-test.true in
    raised_step (λ (k : SignedCoordinate). fields_of_coordinate (coordinate_of k)) all l.checked-index this c.args.ends.now l.ends c.raise_by_coordinate.new.ends (get_or_default all l.checked-index none this inside) inside l.auto.ends l.invariant c.raise_by_coordinate.ensures
