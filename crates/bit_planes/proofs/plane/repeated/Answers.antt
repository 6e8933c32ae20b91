use Rattle.std.proofs.Common.{cond, Bool, ◌∙◌, sym, ap}
use Rattle.std.proofs.Math.ListN.{replicate}
use Rattle.bit_planes.specs.Bits.{bit}
use Rattle.bit_planes.proofs.Words.{bit-ones, bit-zeros}
use Rattle.bit_planes.proofs.plane.repeated.Goals as goal
use Rattle.bit_planes.proofs.plane.repeated.Goals.{then-one, else-one}

pub returns : goal.returns
returns c = λ i h. elim c.if-one.branch [
  | then-one w ↦ ap (λ n. bit (replicate 8 n) i) w.result-is ∙ bit-ones i h ∙ sym (ap (λ (b : Bool). cond b 1 0) w.if-one.true)
  | else-one w ↦ ap (λ n. bit (replicate 8 n) i) w.result-is ∙ bit-zeros i h ∙ sym (ap (λ (b : Bool). cond b 1 0) w.if-one.false)
]
