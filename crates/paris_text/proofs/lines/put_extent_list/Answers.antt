use Rattle.std.proofs.Common.{ℕ, List, subst}
use Rattle.paris_code.specs.Listing.{extent_text}
use Rattle.paris_text.specs.Puts.{Puts}
use Rattle.paris_text.proofs.Numbered.{unnumbered}
use Rattle.paris_text.proofs.lines.put_extent_list.Goals as goal

pub returns : goal.returns
returns g c =
    subst (λ (text : List ℕ). Puts g.O.Sink.agrees g.O.Sink.faults c.args.out.now c.put_list.new.out c.put_list.result text) (unnumbered extent_text 0 c.args.extents.now) c.put_list.ensures
