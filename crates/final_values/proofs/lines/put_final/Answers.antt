use Rattle.std.proofs.Common.{◌++◌, codes, append_assoc}
use Rattle.paris_code.specs.Shapes.{shapes_of}
use Rattle.paris_text.proofs.Putting.{put_whole, failed_whole}
use Rattle.final_values.specs.Finals.{values_line, values_text}
use Rattle.final_values.proofs.lines.put_final.Goals as goal

pub returns-in-Ok : goal.returns-in-Ok
returns-in-Ok g c =
    let shapes = shapes_of c.args.sound.now in
    let memory = g.P.Phases.memory c.args.phases.now in
    let last = c.args.last.now in
    put_whole g.O.Sink.agrees g.O.Sink.faults c.args.out.now c.put_name.new.out c.put_row.new.out c.put_row.result
    (values_line shapes memory last) (last.name ++ codes ":") (values_text shapes memory last ++ codes "\n") (simp append_assoc) c.in-Ok.ensures c.put_row.ensures

pub returns-in-Err : goal.returns-in-Err
returns-in-Err g c =
    let shapes = shapes_of c.args.sound.now in
    let memory = g.P.Phases.memory c.args.phases.now in
    let last = c.args.last.now in
    failed_whole g.O.Sink.agrees g.O.Sink.faults c.args.out.now c.put_name.new.out
    (values_line shapes memory last) (last.name ++ codes ":") (values_text shapes memory last ++ codes "\n") (simp append_assoc) c.in-Err.ensures
