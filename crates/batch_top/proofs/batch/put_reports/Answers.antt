use Rattle.std.proofs.Common.{map, arith}
use Rattle.std.specs.String.{string_bytes}
use Rattle.job_callers.specs.Sections.{sections}
use Rattle.batch_top.proofs.Taking.{all_of, then_nothing}
use Rattle.batch_top.proofs.batch.put_reports.Goals as goal

pub returns-in-Ok-clause-whole : goal.returns-in-Ok-clause-whole
returns-in-Ok-clause-whole g c zero =
    let names = map string_bytes c.args.jobs.now.names.now in
    let whole = c.in-Ok.ensures.whole in
    (whole.0, whole.1, whole.2, then_nothing g.O.Sink.agrees c.args.out.now c.put.new.out c.sent.new.out (sections names whole.0) whole.3 c.sent.ensures.nothing)

pub returns-in-Ok-clause-part : goal.returns-in-Ok-clause-part
returns-in-Ok-clause-part g c =
    let names = map string_bytes c.args.jobs.now.names.now in
    let whole = c.in-Ok.ensures.whole in
    let text = sections names whole.0 in
    (whole.0, omega (arith, whole.1), whole.2, all_of g.O.Sink.agrees c.args.out.now c.sent.new.out text (then_nothing g.O.Sink.agrees c.args.out.now c.put.new.out c.sent.new.out text whole.3 c.sent.ensures.nothing))

pub returns-in-Err-Failed-clause-part : goal.returns-in-Err-Failed-clause-part
returns-in-Err-Failed-clause-part g c = c.in-Err-Failed.ensures.part

pub returns-in-Err-Memory-clause-part : goal.returns-in-Err-Memory-clause-part
returns-in-Err-Memory-clause-part g c = c.in-Err-Memory.ensures.part
