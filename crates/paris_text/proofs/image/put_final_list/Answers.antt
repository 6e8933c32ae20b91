use Rattle.std.proofs.Common.{ℕ, List, subst}
use Rattle.paris_code.specs.Listing.{final_line}
use Rattle.paris_text.specs.Puts.{Puts}
use Rattle.paris_text.proofs.Numbered.{unnumbered}
use Rattle.paris_text.proofs.image.put_final_list.Goals as goal

pub returns : goal.returns
returns g c =
    subst (λ (text : List ℕ). Puts g.O.Sink.agrees g.O.Sink.faults c.args.out.now c.put_list.new.out c.put_list.result text) (unnumbered final_line 0 c.args.finals.now) c.put_list.ensures
