use Rattle.std.proofs.Common.{refl}
use Rattle.paris_code.specs.Listing.{numbered, unit_line, instruction_line}
use Rattle.paris_text.proofs.Parts.{after_finals}
use Rattle.paris_text.proofs.Putting.{put_whole, failed_whole}
use Rattle.paris_text.proofs.image.behind_finals.Goals as goal

pub returns-in-Ok : goal.returns-in-Ok
returns-in-Ok g c =
    put_whole g.O.Sink.agrees g.O.Sink.faults c.args.out.now c.put_units.new.out c.put_code.new.out c.put_code.result
    (after_finals c.args.image.now)
    (numbered unit_line 0 c.args.image.now.units.items)
    (numbered instruction_line 0 c.args.image.now.code.items)
    (refl)
    c.in-Ok.ensures
    c.put_code.ensures

pub returns-in-Err : goal.returns-in-Err
returns-in-Err g c =
    failed_whole g.O.Sink.agrees g.O.Sink.faults c.args.out.now c.put_units.new.out
    (after_finals c.args.image.now)
    (numbered unit_line 0 c.args.image.now.units.items)
    (numbered instruction_line 0 c.args.image.now.code.items)
    (refl)
    c.in-Err.ensures
