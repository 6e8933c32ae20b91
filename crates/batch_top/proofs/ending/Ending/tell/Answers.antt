use Rattle.batch_top.specs.Endings.{line_of}
use Rattle.batch_top.proofs.Taking.{all_of, part_then_nothing}
use Rattle.batch_top.proofs.ending.Ending.tell.Goals as goal

pub returns-in-Ok-clause-part : goal.returns-in-Ok-clause-part
returns-in-Ok-clause-part g c =
    part_then_nothing g.E.Sink.agrees c.args.err.now c.put.new.err c.sent.new.err (line_of c.args.self.now)
    (all_of g.E.Sink.agrees c.args.err.now c.put.new.err (line_of c.args.self.now) c.in-Ok.ensures.taken) c.sent.ensures.nothing
