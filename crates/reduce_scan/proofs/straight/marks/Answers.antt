use Rattle.std.proofs.Common.{◌≡◌, ◌<◌, length, sym, ap, subst, ◌∙◌}
use Rattle.std.specs.Prelude.{IfSome}
use Rattle.bit_planes.specs.Bits.{bit}
use Rattle.reduce_scan.specs.WithinBlocks.{bit_in}
use Rattle.reduce_scan.proofs.WithinBlocks.{flag, bit_of_one}
use Rattle.reduce_scan.proofs.straight.marks.Goals as goal
use Rattle.reduce_scan.proofs.straight.marks.Goals.{in-None, in-Some}

pub returns : goal.returns
returns c = λ i b.
    let planes = c.args.block.now.planes.items in
    elim c.match-mark.branch [
      | in-None w ↦ ap (λ p. bit p i) w.result-is ∙ w.repeated.ensures i b ∙ sym (ap (λ m. flag (bit_in planes m i)) w.in-None.is)
      | in-Some w ↦
          ap (λ p. bit p i) w.result-is ∙ ap (λ p. bit p i) w.plane.ensures
          ∙ bit_of_one planes w.in-Some.field i (subst (λ m. IfSome m (λ f. (f.offset < length planes) × (f.len ≡ 1))) w.in-Some.is c.requires.mark).1
          ∙ sym (ap (λ m. flag (bit_in planes m i)) w.in-Some.is)
    ]
