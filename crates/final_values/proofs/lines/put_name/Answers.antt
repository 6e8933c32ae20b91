use Rattle.std.proofs.Common.{◌++◌, codes, ap, List, ℕ}
use Rattle.paris_text.proofs.Putting.{put_whole, failed_whole}
use Rattle.final_values.proofs.Rows.{put_says}
use Rattle.final_values.proofs.lines.put_name.Goals as goal

pub returns-in-Ok : goal.returns-in-Ok
returns-in-Ok g c =
    let last = c.put-in-Ok.ensures in
    put_whole g.O.Sink.agrees g.O.Sink.faults c.args.out.now c.put.new.self c.put-in-Ok.new.self c.put-in-Ok.result (c.args.last.now.name ++ codes ":") c.bytes.result.now (codes ":") (ap (λ (name : List ℕ). name ++ codes ":") c.bytes.ensures)
    (c.in-Ok.ensures.taken, c.in-Ok.ensures.other)
    (put_says g.O.Sink.agrees g.O.Sink.faults c.put.new.self c.put-in-Ok.new.self c.put-in-Ok.result (codes ":") last.taken last.part last.failed last.other)

pub returns-in-Err : goal.returns-in-Err
returns-in-Err g c =
    failed_whole g.O.Sink.agrees g.O.Sink.faults c.args.out.now c.put.new.self (c.args.last.now.name ++ codes ":") c.bytes.result.now (codes ":") (ap (λ (name : List ℕ). name ++ codes ":") c.bytes.ensures)
    (c.in-Err.ensures.part, c.in-Err.ensures.failed)
