use Rattle.std.proofs.Common.{◌≡◌, ◌<◌, ap, ◌∙◌, sym, arith, length, slice_index_or, slice_set, false}
use Rattle.std.proofs.lemmas.List.Edits.{map_over_more}
use Rattle.std.proofs.lemmas.List.{get_or_default}
use Rattle.paris_code.specs.Moving.{moved_signed}
use Rattle.paris_code.specs.declared.operands.Coordinate.{Coordinate}
use Rattle.paris_code.specs.declared.operands.Coordinate.TheVariants as C
use Rattle.paris_code.specs.declared.operands.SignedCoordinate.{SignedCoordinate}
use Rattle.paris_code.proofs.moving.move_signed.Goals as goal

pub loop-checked-preserved : goal.loop-checked-preserved
loop-checked-preserved c =
    let l = c.loop-checked in
    let k = l.checked-index in
    let old : SignedCoordinate = record { coordinate = C.Field (record { set = 0; offset = 0; len = 0 }); signed = false } in
    let d = slice_index_or l.coordinates k old in
    let inside : k < length l.coordinates = omega (arith, l.auto.coordinates, c.loop-checked-test.true) in
    let written : Coordinate → SignedCoordinate = λ moved. record { coordinate = moved; signed = d.signed } in
    ap (λ moved. slice_set l.coordinates k (written moved)) c.moved-checked.ensures
    ∙ map_over_more (moved_signed c.args.places.now) c.args.coordinates.now l.coordinates k d (omega (arith, c.loop-checked-test.true)) l.invariant (get_or_default l.coordinates k old d inside)
