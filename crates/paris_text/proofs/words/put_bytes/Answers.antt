use Rattle.std.proofs.Common.{subst, ℕ, List, [], ◌∷◌, ◌++◌, flat_map, sym, ◌∙◌, ap, append-nil}
use Rattle.paris_code.specs.Listing.{hex_text}
use Rattle.paris_text.specs.Puts.{Puts}
use Rattle.paris_text.proofs.Numbered.{unnumbered}
use Rattle.paris_text.proofs.Putting.{put_then, first_failed}
use Rattle.paris_text.proofs.words.put_bytes.Goals as goal

pub returns-in-Ok : goal.returns-in-Ok
returns-in-Ok g c =
    let digits = flat_map hex_text c.args.bytes.now in
    let e = ap (λ rest. 32 ∷ 120 ∷ rest) (unnumbered hex_text 0 c.args.bytes.now ∙ sym (append-nil digits)) in
    subst (λ (text : List ℕ). Puts g.O.Sink.agrees g.O.Sink.faults c.args.out.now c.put_list.new.out c.put_list.result text) e
    (put_then g.O.Sink.agrees g.O.Sink.faults c.args.out.now c.put_pieces.new.out c.put_list.new.out c.put_list.result (32 ∷ 120 ∷ []) _ c.in-Ok.ensures c.put_list.ensures)

pub returns-in-Err : goal.returns-in-Err
returns-in-Err g c =
    let digits = flat_map hex_text c.args.bytes.now ++ [] in
    first_failed g.O.Sink.agrees g.O.Sink.faults c.args.out.now c.put_pieces.new.out (32 ∷ 120 ∷ []) digits c.in-Err.ensures
