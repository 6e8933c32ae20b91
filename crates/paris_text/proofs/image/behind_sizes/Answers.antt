use Rattle.std.proofs.Common.{flat_map, refl}
use Rattle.paris_code.specs.Listing.{final_line}
use Rattle.paris_text.proofs.Parts.{after_sizes, after_finals}
use Rattle.paris_text.proofs.Putting.{put_whole, failed_whole}
use Rattle.paris_text.proofs.image.behind_sizes.Goals as goal

pub returns-in-Ok : goal.returns-in-Ok
returns-in-Ok g c =
    put_whole g.O.Sink.agrees g.O.Sink.faults c.args.out.now c.put_finals.new.out c.behind_finals.new.out c.behind_finals.result
    (after_sizes c.args.image.now)
    (flat_map final_line c.args.image.now.finals.items)
    (after_finals c.args.image.now)
    (refl)
    c.in-Ok.ensures
    c.behind_finals.ensures

pub returns-in-Err : goal.returns-in-Err
returns-in-Err g c =
    failed_whole g.O.Sink.agrees g.O.Sink.faults c.args.out.now c.put_finals.new.out
    (after_sizes c.args.image.now)
    (flat_map final_line c.args.image.now.finals.items)
    (after_finals c.args.image.now)
    (refl)
    c.in-Err.ensures
