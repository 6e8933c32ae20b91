use Rattle.std.proofs.Common.{◌++◌, codes, refl}
use Rattle.paris_code.specs.Shapes.{shapes_of}
use Rattle.paris_text.proofs.Putting.{put_whole, failed_whole}
use Rattle.final_values.specs.Finals.{values_text}
use Rattle.final_values.proofs.Rows.{put_says}
use Rattle.final_values.proofs.lines.put_row.Goals as goal

pub returns-in-Ok : goal.returns-in-Ok
returns-in-Ok g c =
    let last = c.put.ensures in
    let values = values_text (shapes_of c.args.sound.now) (g.P.Phases.memory c.args.phases.now) c.args.last.now in
    put_whole g.O.Sink.agrees g.O.Sink.faults c.args.out.now c.put_values.new.out c.put.new.self c.put.result (values ++ codes "\n") values (codes "\n") refl
    c.in-Ok.ensures
    (put_says g.O.Sink.agrees g.O.Sink.faults c.put_values.new.out c.put.new.self c.put.result (codes "\n") last.taken last.part last.failed last.other)

pub returns-in-Err : goal.returns-in-Err
returns-in-Err g c =
    let values = values_text (shapes_of c.args.sound.now) (g.P.Phases.memory c.args.phases.now) c.args.last.now in
    failed_whole g.O.Sink.agrees g.O.Sink.faults c.args.out.now c.put_values.new.out (values ++ codes "\n") values (codes "\n") refl c.in-Err.ensures
