use Rattle.paris_code.specs.Listing.{spaced, coordinate_text, read_text}
use Rattle.paris_text.proofs.Putting.{put_then, first_failed}
use Rattle.paris_text.proofs.words.SpacedCheckedStyleSignedCoordinate.put.Goals as goal

pub returns-in-Ok : goal.returns-in-Ok
returns-in-Ok g c =
    put_then g.O.Sink.agrees g.O.Sink.faults c.args.out.now _ c.put_sign.new.out c.put_sign.result (spaced (coordinate_text c.args.item.now.coordinate)) (read_text c.args.item.now.signed) c.in-Ok.ensures c.put_sign.ensures

pub returns-in-Err : goal.returns-in-Err
returns-in-Err g c =
    first_failed g.O.Sink.agrees g.O.Sink.faults c.args.out.now c.put.new.out (spaced (coordinate_text c.args.item.now.coordinate)) (read_text c.args.item.now.signed) c.in-Err.ensures
