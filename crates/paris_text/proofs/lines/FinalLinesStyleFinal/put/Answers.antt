use Rattle.std.proofs.Common.{[], ◌∷◌, ◌++◌, codes, append_assoc}
use Rattle.std.specs.List.{concat}
use Rattle.paris_code.specs.Listing.{spaced, final_line, kind_text, field_text}
use Rattle.paris_text.proofs.Putting.{put_whole, failed_whole}
use Rattle.paris_text.proofs.lines.FinalLinesStyleFinal.put.Goals as goal

pub returns-in-Ok : goal.returns-in-Ok
returns-in-Ok g c =
    put_whole g.O.Sink.agrees g.O.Sink.faults c.args.out.now c.put_final_name.new.out c.put_final_field.new.out c.put_final_field.result
    (final_line c.args.item.now)
    (concat (codes ".final " ∷ c.args.item.now.name ∷ []))
    ((spaced (kind_text c.args.item.now.elem) ++ (spaced (field_text c.args.item.now.field) ++ [])) ++ codes "\n")
    (simp append_assoc)
    c.in-Ok.ensures
    c.put_final_field.ensures

pub returns-in-Err : goal.returns-in-Err
returns-in-Err g c =
    failed_whole g.O.Sink.agrees g.O.Sink.faults c.args.out.now c.put_final_name.new.out
    (final_line c.args.item.now)
    (concat (codes ".final " ∷ c.args.item.now.name ∷ []))
    ((spaced (kind_text c.args.item.now.elem) ++ (spaced (field_text c.args.item.now.field) ++ [])) ++ codes "\n")
    (simp append_assoc)
    c.in-Err.ensures
