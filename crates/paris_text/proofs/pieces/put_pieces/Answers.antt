use Rattle.std.proofs.Common.{subst, ℕ, List}
use Rattle.paris_text.specs.Pieces.{piece_text}
use Rattle.paris_text.specs.Puts.{Puts}
use Rattle.paris_text.proofs.Numbered.{unnumbered}
use Rattle.paris_text.proofs.pieces.put_pieces.Goals as goal

pub returns : goal.returns
returns g c =
    subst (λ (text : List ℕ). Puts g.O.Sink.agrees g.O.Sink.faults c.args.out.now c.put_list.new.out c.put_list.result text) (unnumbered piece_text 0 c.args.pieces.now) c.put_list.ensures
