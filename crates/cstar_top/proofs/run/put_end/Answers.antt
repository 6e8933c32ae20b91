use Rattle.std.proofs.Common.{◌++◌, ◌||◌, codes, refl}
use Rattle.paris_code.specs.Shapes.{shapes_of}
use Rattle.paris_text.proofs.Putting.{put_whole, failed_whole}
use Rattle.final_values.specs.Finals.{finals_text}
use Rattle.cstar_top.specs.Courses.{closing_text, steps_line, where_asked}
use Rattle.cstar_top.proofs.run.put_end.Goals as goal

pub returns-in-Ok : goal.returns-in-Ok
unfolding closing_text
returns-in-Ok g c =
    let image = c.args.sound.now in
    let options = c.args.options.now in
    let memory = g.P.Phases.memory c.args.phases.now in
    let values = where_asked options.finals (finals_text (shapes_of image) memory image.finals.items) ++ where_asked options.listing (steps_line c.args.steps) in
    put_whole g.O.Sink.agrees g.O.Sink.faults c.args.out.now c.put_newline.new.out c.put_values.new.out c.put_values.result
    (closing_text options image c.args.steps memory) (where_asked (options.finals || options.listing) (codes "\n")) values refl c.in-Ok.ensures c.put_values.ensures

pub returns-in-Err : goal.returns-in-Err
unfolding closing_text
returns-in-Err g c =
    let image = c.args.sound.now in
    let options = c.args.options.now in
    let memory = g.P.Phases.memory c.args.phases.now in
    let values = where_asked options.finals (finals_text (shapes_of image) memory image.finals.items) ++ where_asked options.listing (steps_line c.args.steps) in
    failed_whole g.O.Sink.agrees g.O.Sink.faults c.args.out.now c.put_newline.new.out
    (closing_text options image c.args.steps memory) (where_asked (options.finals || options.listing) (codes "\n")) values refl c.in-Err.ensures
