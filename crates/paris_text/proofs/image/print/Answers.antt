use Rattle.std.proofs.Common.{refl}
use Rattle.paris_code.specs.Listing.{listing, numbered, shape_line}
use Rattle.paris_text.proofs.Parts.{after_shapes}
use Rattle.paris_text.proofs.Putting.{put_whole, failed_whole}
use Rattle.paris_text.proofs.image.print.Goals as goal

pub returns-in-Ok : goal.returns-in-Ok
unfolding listing
returns-in-Ok g c =
    put_whole g.O.Sink.agrees g.O.Sink.faults c.args.out.now c.put_shapes.new.out c.behind_shapes.new.out c.behind_shapes.result
    (listing c.args.image.now)
    (numbered shape_line 0 c.args.image.now.shapes.items)
    (after_shapes c.args.image.now)
    (refl)
    c.in-Ok.ensures
    c.behind_shapes.ensures

pub returns-in-Err : goal.returns-in-Err
unfolding listing
returns-in-Err g c =
    failed_whole g.O.Sink.agrees g.O.Sink.faults c.args.out.now c.put_shapes.new.out
    (listing c.args.image.now)
    (numbered shape_line 0 c.args.image.now.shapes.items)
    (after_shapes c.args.image.now)
    (refl)
    c.in-Err.ensures
