use Rattle.std.proofs.Common.{◌≡◌, take}
use Rattle.cstar_io.specs.Output.{Takes}
use Rattle.paris_code.specs.Listing.{numbered}
use Rattle.paris_text.proofs.pieces.put_list.Given as goal

abbrev pub invariant-loop-number : goal.invariant-loop-number
invariant-loop-number g l =
    Takes g.O.Sink.agrees l.fn.out l.out (numbered g.S.Style.text 0 (take l.number l.items))
    × (g.O.Sink.faults l.out ≡ g.O.Sink.faults l.fn.out)
