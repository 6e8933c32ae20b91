use Rattle.std.proofs.Common.{◌<◌, List, get_or, sym, ◌∙◌, arith}
use Rattle.std.proofs.lemmas.Bool.{true≢false}
use Rattle.std.proofs.lemmas.List.Elements.{Contains-get_or}
use Rattle.image_check.specs.declared.chains.Call.{Call}
use Rattle.image_check.specs.Marks.{unmarked}
use Rattle.image_check.proofs.CallLaws.{spread_only, closed_more}
use Rattle.image_check.proofs.chains.spread_each.Goals as goal
use Rattle.image_check.proofs.chains.spread_each.Goals.{then-spread, else-spread}

pub loop-call-preserved : goal.loop-call-preserved
loop-call-preserved c =
    let calls : List Call = c.args.calls.now in
    let e : Call = record { from = 0; to = 0 } in
    record {
      same = c.spread.ensures.same ∙ c.loop-call.invariant.same;
      kept = λ other marked. c.spread.ensures.kept other (c.loop-call.invariant.kept other marked);
      only = spread_only calls c.args.marks.now.items c.loop-call.marks.items c.spread.new.marks.items (get_or calls c.loop-call.call-index e)
          (Contains-get_or calls c.loop-call.call-index e c.loop-call-test.true) c.loop-call.invariant.only c.spread.ensures.only;
      no_more = omega (arith, c.spread.ensures.no_more, c.loop-call.invariant.no_more);
      more = λ t. elim c.if-spread.branch [
        | then-spread w ↦
            let less : unmarked c.spread.new.marks.items < unmarked c.loop-call.marks.items = c.spread.ensures.more w.if-spread.true in
            omega (arith, less, c.loop-call.invariant.no_more)
        | else-spread w ↦
            let less : unmarked c.loop-call.marks.items < unmarked c.args.marks.now.items = c.loop-call.invariant.more (sym w.spreads-is ∙ t) in
            omega (arith, less, c.spread.ensures.no_more)
      ];
      still = λ f. elim c.if-spread.branch [
        | then-spread w ↦ absurd (true≢false (sym w.spreads-is ∙ f))
        | else-spread w ↦
            closed_more calls c.loop-call.marks.items c.spread.new.marks.items c.loop-call.call-index e c.loop-call-test.true
            (c.spread.ensures.still w.if-spread.false).0 (c.spread.ensures.still w.if-spread.false).1
            (c.loop-call.invariant.still (sym w.spreads-is ∙ f))
      ];
    }
