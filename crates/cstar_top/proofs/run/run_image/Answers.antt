use Rattle.std.proofs.Common.{Option, inr, ap}
use Rattle.std.specs.Prelude.{option_map}
use Rattle.point_runs.specs.Starts.{origin_of}
use Rattle.cstar_top.proofs.Stopping.{saves_from}
use Rattle.cstar_top.proofs.run.run_image.Goals as goal

pub returns-in-Ok-clause-files : goal.returns-in-Ok-clause-files
returns-in-Ok-clause-files g c =
    let options = c.args.options.now in
    let ran = c.run_on_phases-answer in
    let named = ap (λ (o : Option _). option_map (λ word. word.now) o) c.in-Some-save.is in
    inr (saves_from g.S.Shelf.file c.args.shelf.now c.keep_point.new.shelf g.O.Sink.agrees c.args.out.now ran.new.out (g.I.Source.left c.args.input.now) (g.I.Source.left ran.new.input) options (origin_of c.args.start) ran.result.answer ran.result.point c.in-Some.point c.in-Some-save.name.now
    c.in-Some.is named c.keep_point.ensures.others ran.ensures.saved ran.ensures.report)

pub returns-in-Err-Failed-clause-files : goal.returns-in-Err-Failed-clause-files
returns-in-Err-Failed-clause-files g c =
    let options = c.args.options.now in
    let ran = c.run_on_phases-answer in
    let named = ap (λ (o : Option _). option_map (λ word. word.now) o) c.in-Some-save.is in
    inr (saves_from g.S.Shelf.file c.args.shelf.now c.keep_point.new.shelf g.O.Sink.agrees c.args.out.now ran.new.out (g.I.Source.left c.args.input.now) (g.I.Source.left ran.new.input) options (origin_of c.args.start) ran.result.answer ran.result.point c.in-Some.point c.in-Some-save.name.now
    c.in-Some.is named c.keep_point.ensures.others ran.ensures.saved ran.ensures.report)

pub returns-in-Err-Memory-clause-files : goal.returns-in-Err-Memory-clause-files
returns-in-Err-Memory-clause-files g c =
    let options = c.args.options.now in
    let ran = c.run_on_phases-answer in
    let named = ap (λ (o : Option _). option_map (λ word. word.now) o) c.in-Some-save.is in
    inr (saves_from g.S.Shelf.file c.args.shelf.now c.keep_point.new.shelf g.O.Sink.agrees c.args.out.now ran.new.out (g.I.Source.left c.args.input.now) (g.I.Source.left ran.new.input) options (origin_of c.args.start) ran.result.answer ran.result.point c.in-Some.point c.in-Some-save.name.now
    c.in-Some.is named c.keep_point.ensures.others ran.ensures.saved ran.ensures.report)
