use Rattle.std.proofs.Common.{◌++◌, flat_map, codes, refl}
use Rattle.paris_code.specs.Listing.{spaced, operands_of}
use Rattle.paris_text.proofs.Putting.{put_whole, failed_whole}
use Rattle.paris_text.proofs.lines.put_tail.Goals as goal

pub returns-in-Ok : goal.returns-in-Ok
returns-in-Ok g c =
    put_whole g.O.Sink.agrees g.O.Sink.faults c.args.out.now c.put_operands_of.new.out c.put_end.new.out c.put_end.result
    (flat_map spaced (operands_of c.args.instr.now) ++ codes "\n")
    (flat_map spaced (operands_of c.args.instr.now))
    (codes "\n")
    (refl)
    c.in-Ok.ensures
    c.put_end.ensures

pub returns-in-Err : goal.returns-in-Err
returns-in-Err g c =
    failed_whole g.O.Sink.agrees g.O.Sink.faults c.args.out.now c.put_operands_of.new.out
    (flat_map spaced (operands_of c.args.instr.now) ++ codes "\n")
    (flat_map spaced (operands_of c.args.instr.now))
    (codes "\n")
    (refl)
    c.in-Err.ensures
