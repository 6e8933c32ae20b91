use Rattle.std.proofs.Common.{flat_map, refl}
use Rattle.paris_code.specs.Listing.{extent_text}
use Rattle.paris_text.proofs.Parts.{grid, bits_tail}
use Rattle.paris_text.proofs.Putting.{put_whole, failed_whole}
use Rattle.paris_text.proofs.lines.put_grid.Goals as goal

pub returns-in-Ok : goal.returns-in-Ok
returns-in-Ok g c =
    put_whole g.O.Sink.agrees g.O.Sink.faults c.args.out.now c.put_extents.new.out c.put_bits.new.out c.put_bits.result
    (grid c.args.shape.now)
    (flat_map extent_text c.args.shape.now.extents.items)
    (bits_tail c.args.shape.now)
    (refl)
    c.in-Ok.ensures
    c.put_bits.ensures

pub returns-in-Err : goal.returns-in-Err
returns-in-Err g c =
    failed_whole g.O.Sink.agrees g.O.Sink.faults c.args.out.now c.put_extents.new.out
    (grid c.args.shape.now)
    (flat_map extent_text c.args.shape.now.extents.items)
    (bits_tail c.args.shape.now)
    (refl)
    c.in-Err.ensures
