use Rattle.std.proofs.Common.{◌++◌, ◌∙◌, ap, codes, decimal, List, ℕ}
use Rattle.paris_text.proofs.Putting.{put_whole, failed_whole}
use Rattle.final_values.proofs.Rows.{put_says}
use Rattle.cstar_top.proofs.run.put_number.Goals as goal

pub returns-in-Ok : goal.returns-in-Ok
returns-in-Ok g c =
    let last = c.put-in-Ok.ensures in
    let end = codes " instructions\n" in
    put_whole g.O.Sink.agrees g.O.Sink.faults c.args.out.now c.put.new.self c.put-in-Ok.new.self c.put-in-Ok.result (decimal c.args.steps ++ end) c.as_bytes.result.now end
    (ap (λ (digits : List ℕ). digits ++ codes " instructions\n") (c.as_bytes.ensures.value ∙ c.format.ensures.text))
    (c.in-Ok.ensures.taken, c.in-Ok.ensures.other)
    (put_says g.O.Sink.agrees g.O.Sink.faults c.put.new.self c.put-in-Ok.new.self c.put-in-Ok.result end last.taken last.part last.failed last.other)

pub returns-in-Err : goal.returns-in-Err
returns-in-Err g c =
    let end = codes " instructions\n" in
    failed_whole g.O.Sink.agrees g.O.Sink.faults c.args.out.now c.put.new.self (decimal c.args.steps ++ end) c.as_bytes.result.now end
    (ap (λ (digits : List ℕ). digits ++ codes " instructions\n") (c.as_bytes.ensures.value ∙ c.format.ensures.text))
    (c.in-Err.ensures.part, c.in-Err.ensures.failed)
