use Rattle.std.proofs.Common.{get_or, arith}
use Rattle.std.proofs.lemmas.Option.{slice_get-get_or, slice_get_within}
use Rattle.field_alloc.specs.declared.spans.Span.{Span}
use Rattle.field_alloc.proofs.Closed.{flags_more}
use Rattle.field_alloc.proofs.stretches.end_flags.Goals as goal

pub loop-stretch-preserved : goal.loop-stretch-preserved
loop-stretch-preserved c =
    let loops = c.args.loops.now in
    let i = c.loop-stretch.stretch-index in
    let none : Span = record { first = 0; last = 0 } in
    let one = c.set_flag in
    let two = c.set_flag-in-loop-stretch in
    flags_more loops i (get_or loops i none) c.loop-stretch.ends.items one.new.flags.items two.new.flags.items
    (slice_get-get_or loops i none c.loop-stretch-test.true) one.ensures.length two.ensures.length
    one.ensures.kept two.ensures.kept one.ensures.flagged two.ensures.flagged c.loop-stretch.invariant

pub returns : goal.returns
returns c = λ k stretch is.
    let within = slice_get_within c.args.loops.now k stretch is in
    c.loop-stretch.invariant k stretch (omega arith) is
