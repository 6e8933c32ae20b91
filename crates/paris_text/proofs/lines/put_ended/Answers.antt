use Rattle.std.proofs.Common.{◌++◌, codes, refl}
use Rattle.paris_text.proofs.Parts.{words}
use Rattle.paris_text.proofs.Putting.{put_whole, failed_whole}
use Rattle.paris_text.proofs.lines.put_ended.Goals as goal

pub returns-in-Ok : goal.returns-in-Ok
returns-in-Ok g c =
    put_whole g.O.Sink.agrees g.O.Sink.faults c.args.out.now c.put_operands.new.out c.put_end.new.out c.put_end.result
    (words c.args.operands.now ++ codes "\n")
    (words c.args.operands.now)
    (codes "\n")
    (refl)
    c.in-Ok.ensures
    c.put_end.ensures

pub returns-in-Err : goal.returns-in-Err
returns-in-Err g c =
    failed_whole g.O.Sink.agrees g.O.Sink.faults c.args.out.now c.put_operands.new.out
    (words c.args.operands.now ++ codes "\n")
    (words c.args.operands.now)
    (codes "\n")
    (refl)
    c.in-Err.ensures
