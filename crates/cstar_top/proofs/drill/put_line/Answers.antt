use Rattle.cstar_top.proofs.Lines.{prefix_of_whole}
use Rattle.cstar_top.proofs.drill.put_line.Goals as goal

pub returns-in-Ok-clause-part : goal.returns-in-Ok-clause-part
returns-in-Ok-clause-part g c =
    prefix_of_whole g.O.Sink.agrees c.args.out.now c.put.new.self c.sent.new.out c.args.text.now c.in-Ok.ensures.taken c.sent.ensures.nothing
