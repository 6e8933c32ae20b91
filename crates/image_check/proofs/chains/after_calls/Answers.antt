use Rattle.std.proofs.Common.{◌≡◌, length, refl, sym, ◌∙◌, arith}
use Rattle.image_check.proofs.CallLaws.{rounds_done, rounds_more}
use Rattle.image_check.proofs.chains.after_calls.Goals as goal

pub returns-then-are_equal : goal.returns-then-are_equal
returns-then-are_equal c =
    let same : c.in_ok-next.next.items ≡ c.loop-done.marks.items =
    sym c.as_slice-in-loop-done.ensures.value ∙ c.if-are_equal.ensures.0 refl ∙ c.as_slice-in-loop-done-2.ensures.value in
    rounds_done (length c.args.start.items) c.args.calls.now c.args.start.items c.loop-done.marks.items c.as_slice.result.now c.in_ok-next.next.items
    c.loop-done.done c.args.rounds c.requires c.as_slice.ensures.value c.in_ok-next.ensures.1 same
    (omega (arith, c.loop-done-test.true)) c.loop-done.invariant

pub loop-done-preserved : goal.loop-done-preserved
loop-done-preserved c =
    rounds_more (length c.args.start.items) c.args.calls.now c.args.start.items c.loop-done.marks.items c.as_slice.result.now c.in_ok-next.next.items
    c.loop-done.done c.requires c.as_slice.ensures.value c.in_ok-next.ensures c.loop-done.invariant
