use Rattle.std.proofs.Common.{[], ◌∷◌, codes, decimal, append_assoc}
use Rattle.std.specs.List.{concat}
use Rattle.paris_code.specs.Listing.{shape_line}
use Rattle.paris_text.proofs.Parts.{grid}
use Rattle.paris_text.proofs.Putting.{put_whole, failed_whole}
use Rattle.paris_text.proofs.lines.ShapeLinesStyleShapeBits.put.Goals as goal

pub returns-in-Ok : goal.returns-in-Ok
returns-in-Ok g c =
    put_whole g.O.Sink.agrees g.O.Sink.faults c.args.out.now c.put_shape_number.new.out c.put_grid.new.out c.put_grid.result
    (shape_line c.args.number c.args.item.now)
    (concat (codes ".shape " ∷ decimal c.args.number ∷ codes " " ∷ []))
    (grid c.args.item.now)
    (simp append_assoc)
    c.in-Ok.ensures
    c.put_grid.ensures

pub returns-in-Err : goal.returns-in-Err
returns-in-Err g c =
    failed_whole g.O.Sink.agrees g.O.Sink.faults c.args.out.now c.put_shape_number.new.out
    (shape_line c.args.number c.args.item.now)
    (concat (codes ".shape " ∷ decimal c.args.number ∷ codes " " ∷ []))
    (grid c.args.item.now)
    (simp append_assoc)
    c.in-Err.ensures
