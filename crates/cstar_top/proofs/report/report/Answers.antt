use Rattle.std.proofs.Common.{inl}
use Rattle.cstar_io.proofs.Taking.{prefix_of_none}
use Rattle.cstar_top.specs.Answers.{line_of}
use Rattle.cstar_top.proofs.report.report.Goals as goal

pub returns-then-status-eq6-clause-part : goal.returns-then-status-eq6-clause-part
returns-then-status-eq6-clause-part g c _ =
    inl (prefix_of_none g.E.Sink.agrees c.args.err.now c.args.err.now (line_of c.args.file.now c.args.answer) (λ before is. is))
