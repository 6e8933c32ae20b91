use Rattle.cstar_top.specs.Courses.{closing_text}
use Rattle.cstar_top.proofs.Lines.{prefix_of_whole}
use Rattle.cstar_top.proofs.run.ended.Goals as goal

pub returns-in-Ok-clause-part : goal.returns-in-Ok-clause-part
returns-in-Ok-clause-part g c =
    prefix_of_whole g.O.Sink.agrees c.args.out.now c.put_end.new.out c.sent.new.out
    (closing_text c.args.options.now c.args.sound.now c.args.steps (g.P.Phases.memory c.args.phases.now)) c.in-Ok.ensures.0 c.sent.ensures.nothing
