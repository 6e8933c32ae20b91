use Rattle.std.proofs.Common.{◌++◌, codes}
use Rattle.cstar_io.proofs.Taking.{prefix_of_first, prefix_then_if}
use Rattle.batch_top.proofs.Taking.{takes_then_if}
use Rattle.batch_top.proofs.ending.put_unread.Goals as goal

pub returns-in-Err-clause-part : goal.returns-in-Err-clause-part
returns-in-Err-clause-part g c =
    prefix_of_first g.E.Sink.agrees c.args.err.now c.put.new.self (codes "cannot read ") (c.args.name.now ++ codes "\n") c.in-Err.ensures.part

pub returns-in-Ok-clause-taken : goal.returns-in-Ok-clause-taken
returns-in-Ok-clause-taken g c =
    takes_then_if g.E.Sink.agrees c.args.err.now c.put.new.self c.put_line.new.out (codes "cannot read ") (c.args.name.now ++ codes "\n") c.put_line.result c.in-Ok.ensures.taken c.put_line.ensures.taken

pub returns-in-Ok-clause-part : goal.returns-in-Ok-clause-part
returns-in-Ok-clause-part g c =
    prefix_then_if g.E.Sink.agrees c.args.err.now c.put.new.self c.put_line.new.out (codes "cannot read ") (c.args.name.now ++ codes "\n") c.put_line.result c.in-Ok.ensures.taken c.put_line.ensures.part
