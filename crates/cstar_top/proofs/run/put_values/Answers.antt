use Rattle.std.proofs.Common.{◌++◌, refl}
use Rattle.paris_code.specs.Shapes.{shapes_of}
use Rattle.paris_text.proofs.Putting.{put_whole, failed_whole}
use Rattle.final_values.specs.Finals.{finals_text}
use Rattle.cstar_top.specs.Courses.{steps_line, where_asked}
use Rattle.cstar_top.proofs.run.put_values.Goals as goal

pub returns-in-Ok : goal.returns-in-Ok
returns-in-Ok g c =
    let image = c.args.sound.now in
    let finals = where_asked c.args.options.now.finals (finals_text (shapes_of image) (g.P.Phases.memory c.args.phases.now) image.finals.items) in
    let count = where_asked c.args.options.now.listing (steps_line c.args.steps) in
    put_whole g.O.Sink.agrees g.O.Sink.faults c.args.out.now c.put_finals_where.new.out c.put_steps.new.out c.put_steps.result (finals ++ count) finals count refl c.in-Ok.ensures c.put_steps.ensures

pub returns-in-Err : goal.returns-in-Err
returns-in-Err g c =
    let image = c.args.sound.now in
    let finals = where_asked c.args.options.now.finals (finals_text (shapes_of image) (g.P.Phases.memory c.args.phases.now) image.finals.items) in
    let count = where_asked c.args.options.now.listing (steps_line c.args.steps) in
    failed_whole g.O.Sink.agrees g.O.Sink.faults c.args.out.now c.put_finals_where.new.out (finals ++ count) finals count refl c.in-Err.ensures
