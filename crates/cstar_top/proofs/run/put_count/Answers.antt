use Rattle.std.proofs.Common.{◌++◌, codes, decimal, refl}
use Rattle.paris_text.proofs.Putting.{put_whole, failed_whole}
use Rattle.cstar_top.specs.Courses.{steps_line}
use Rattle.cstar_top.proofs.run.put_count.Goals as goal

pub returns-in-Ok : goal.returns-in-Ok
returns-in-Ok g c =
    put_whole g.O.Sink.agrees g.O.Sink.faults c.args.out.now c.put.new.self c.put_number.new.out c.put_number.result
    (steps_line c.args.steps) (codes ";; ") (decimal c.args.steps ++ codes " instructions\n") refl (c.in-Ok.ensures.taken, c.in-Ok.ensures.other) c.put_number.ensures

pub returns-in-Err : goal.returns-in-Err
returns-in-Err g c =
    failed_whole g.O.Sink.agrees g.O.Sink.faults c.args.out.now c.put.new.self
    (steps_line c.args.steps) (codes ";; ") (decimal c.args.steps ++ codes " instructions\n") refl (c.in-Err.ensures.part, c.in-Err.ensures.failed)
