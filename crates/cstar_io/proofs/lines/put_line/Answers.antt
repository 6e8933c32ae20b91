use Rattle.std.proofs.Common.{[], ◌∷◌}
use Rattle.cstar_io.proofs.Taking.{prefix_then_if}
use Rattle.cstar_io.proofs.lines.put_line.Goals as goal

pub returns-clause-part : goal.returns-clause-part
returns-clause-part g c = prefix_then_if g.O.Sink.agrees c.args.out.now c.put.new.self c.put-2.new.self c.args.text.now (10 ∷ []) c.put-2.result c.in_ok-put.ensures.taken c.put-2.ensures.part
