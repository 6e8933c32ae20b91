use Rattle.std.proofs.Common.{◌++◌, codes, refl, ap, ◌∙◌, List, ℕ, subst}
use Rattle.std.specs.Fmt.{signed_decimal}
use Rattle.std.proofs.Common.{w64}
use Rattle.std.proofs.lemmas.Int.{to_z-of_z}
use Rattle.paris_text.specs.Puts.{Puts}
use Rattle.paris_text.proofs.Putting.{put_whole, failed_whole}
use Rattle.final_values.proofs.Rows.{put_says}
use Rattle.final_values.proofs.lines.put_value.Goals as goal

pub returns-in-Ok : goal.returns-in-Ok
returns-in-Ok g c =
    let last = c.put-in-Ok.ensures in
    let text = c.as_bytes.ensures.value ∙ c.format.ensures.text ∙ ap signed_decimal (to_z-of_z w64 c.args.number c.ranges.number) in
    put_whole g.O.Sink.agrees g.O.Sink.faults c.args.out.now c.put.new.self c.put-in-Ok.new.self c.put-in-Ok.result (codes " " ++ signed_decimal c.args.number) (codes " ") (signed_decimal c.args.number) refl
    (c.in-Ok.ensures.taken, c.in-Ok.ensures.other)
    (subst (λ (bytes : List ℕ). Puts g.O.Sink.agrees g.O.Sink.faults c.put.new.self c.put-in-Ok.new.self c.put-in-Ok.result bytes) text
    (put_says g.O.Sink.agrees g.O.Sink.faults c.put.new.self c.put-in-Ok.new.self c.put-in-Ok.result c.as_bytes.result.now last.taken last.part last.failed last.other))

pub returns-in-Err : goal.returns-in-Err
returns-in-Err g c =
    failed_whole g.O.Sink.agrees g.O.Sink.faults c.args.out.now c.put.new.self (codes " " ++ signed_decimal c.args.number) (codes " ") (signed_decimal c.args.number) refl
    (c.in-Err.ensures.part, c.in-Err.ensures.failed)
