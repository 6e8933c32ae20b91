use Rattle.std.proofs.Common.{subst, sym, take, refl, append-nil, List, ℕ}
use Rattle.cstar_io.specs.Output.{Takes}
use Rattle.paris_code.specs.Listing.{numbered}
use Rattle.paris_text.proofs.Numbered.{numbered_more, numbered_split}
use Rattle.paris_text.proofs.Putting.{failed_in, put_both}
use Rattle.paris_text.proofs.pieces.put_list.Goals as goal

pub loop-number-init : goal.loop-number-init
unfolding numbered
loop-number-init g c = (λ before is. subst (λ (bytes : List ℕ). g.O.Sink.agrees c.args.out.now bytes) (sym (append-nil before)) is, refl)

pub loop-number-preserved : goal.loop-number-preserved
loop-number-preserved g c =
    let text = g.S.Style.text in
    let items = c.args.items.now in
    let n = c.loop-number.number in
    let x = c.index-items-number.result in
    let both = put_both g.O.Sink.agrees g.O.Sink.faults c.args.out.now c.loop-number.out c.put.new.out (numbered text 0 (take n items)) (text n x) c.loop-number.invariant c.in-Ok.ensures in (
      subst (λ (bytes : List ℕ). Takes g.O.Sink.agrees c.args.out.now c.put.new.out bytes) (sym (numbered_more text items n x c.loop-number-test.true c.index-items-number.is)) both.0,
      both.1,
    )

pub returns-in-Err : goal.returns-in-Err
returns-in-Err g c =
    let text = g.S.Style.text in
    let items = c.args.items.now in
    let n = c.loop-number.number in
    let x = c.index-items-number.result in
    let split = numbered_split text items n x c.loop-number-test.true c.index-items-number.is in
    failed_in g.O.Sink.agrees g.O.Sink.faults c.args.out.now c.loop-number.out c.put.new.out (numbered text 0 items) (numbered text 0 (take n items)) (text n x) split.0 split.1 c.loop-number.invariant c.in-Err.ensures
