use Rattle.cstar_top.proofs.Lines.{prefix_of_whole}
use Rattle.cstar_top.proofs.report.put_line.Goals as goal

pub returns-in-Ok-clause-part : goal.returns-in-Ok-clause-part
returns-in-Ok-clause-part g c _ =
    prefix_of_whole g.E.Sink.agrees c.args.err.now c.put.new.self c.sent.new.err c.args.text.now c.in-Ok.ensures.taken c.sent.ensures.nothing
