use Rattle.std.proofs.Common.{arith}
use Rattle.batch_jobs.proofs.Put.{past_limit}
use Rattle.batch_jobs.proofs.page.PageSink.put.Goals as goal

pub returns-then-bytes-len-clause-part : goal.returns-then-bytes-len-clause-part
returns-then-bytes-len-clause-part g c =
    let page = c.args.self.now in
    let then = c.fail-then-bytes-len.new.self in
    past_limit c.fail-then-bytes-len.result page.faults then.faults page.over then.over g.row.LIMIT page.bytes.items then.bytes.items c.args.bytes.now
    (omega (arith, c.if-self-gt0.false)) c.fail-then-bytes-len.ensures.some (omega (arith, c.if-bytes-len.true, c.len.ensures))
