use Rattle.std.proofs.Common.{min, false, sym, ap, ◌∙◌}
use Rattle.cstar_base.specs.declared.operators.Direction.TheVariants as D
use Rattle.bit_planes.specs.Bits.{bit}
use Rattle.bit_planes.specs.Planes.{plane_at}
use Rattle.bit_planes.proofs.Words.{bit-lt}
use Rattle.paris_code.specs.Scanning.{parts}
use Rattle.reduce_scan.specs.WithinBlocks.{active_in, bit_in}
use Rattle.reduce_scan.proofs.WithinBlocks.{flag, both_bits}
use Rattle.reduce_scan.proofs.straight.segment_starts.Goals as goal
use Rattle.reduce_scan.proofs.straight.segment_starts.Goals.{in-NoSegments, in-StartBit, in-SegmentBit}

pub returns : goal.returns
returns c = λ i b.
    let planes = c.args.block.now.planes.items in
    let scan = c.args.scan.now in
    let context = plane_at planes scan.context in
    let mark = bit_in planes scan.bit i in
    let active = active_in planes scan i in
    elim c.match-scan.branch [
      | in-NoSegments w ↦ ap (λ p. bit p i) w.result-is ∙ w.repeated.ensures i b ∙ sym (ap (λ m. flag (parts m D.Upward false mark active)) w.in-NoSegments.is)
      | in-StartBit w ↦
          ap (λ p. bit p i) w.result-is ∙ w.both.ensures i b ∙ ap (λ p. min (bit w.marks.result i) (bit p i)) w.plane.ensures
          ∙ both_bits (bit w.marks.result i) (bit context i) mark (bit-lt context i) (w.marks.ensures i b)
          ∙ sym (ap (λ m. flag (parts m D.Upward false mark active)) w.in-StartBit.is)
      | in-SegmentBit w ↦
          ap (λ p. bit p i) w.result-is ∙ w.marks-in-SegmentBit.ensures i b ∙ sym (ap (λ m. flag (parts m D.Upward false mark active)) w.in-SegmentBit.is)
    ]
