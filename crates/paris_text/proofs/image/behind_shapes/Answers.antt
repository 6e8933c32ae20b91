use Rattle.std.proofs.Common.{[], ◌∷◌, codes, decimal, append_assoc}
use Rattle.std.specs.List.{concat}
use Rattle.paris_text.proofs.Parts.{after_shapes, after_sizes}
use Rattle.paris_text.proofs.Putting.{put_whole, failed_whole}
use Rattle.paris_text.proofs.image.behind_shapes.Goals as goal

pub returns-in-Ok : goal.returns-in-Ok
returns-in-Ok g c =
    put_whole g.O.Sink.agrees g.O.Sink.faults c.args.out.now c.put_sizes.new.out c.behind_sizes.new.out c.behind_sizes.result
    (after_shapes c.args.image.now)
    (concat (codes ".slots " ∷ decimal c.args.image.now.slots ∷ codes "\n.depth " ∷ decimal c.args.image.now.depth ∷ codes "\n" ∷ []))
    (after_sizes c.args.image.now)
    (simp append_assoc)
    c.in-Ok.ensures
    c.behind_sizes.ensures

pub returns-in-Err : goal.returns-in-Err
returns-in-Err g c =
    failed_whole g.O.Sink.agrees g.O.Sink.faults c.args.out.now c.put_sizes.new.out
    (after_shapes c.args.image.now)
    (concat (codes ".slots " ∷ decimal c.args.image.now.slots ∷ codes "\n.depth " ∷ decimal c.args.image.now.depth ∷ codes "\n" ∷ []))
    (after_sizes c.args.image.now)
    (simp append_assoc)
    c.in-Err.ensures
