use Rattle.std.proofs.Common.{◌≡◌, cond, List, sym, ap, ◌∙◌, arith}
use Rattle.std.proofs.lemmas.Bool.{eq-eqb}
use Rattle.bit_planes.specs.declared.plane.Plane.{Plane}
use Rattle.bit_planes.specs.Bits.{bit}
use Rattle.bit_planes.specs.Planes.{plane_at, number}
use Rattle.bit_planes.proofs.Words.{bit-lt}
use Rattle.reduce_scan.proofs.WordRuns.{none_before}
use Rattle.reduce_scan.proofs.words.rows_or.Goals as goal

pub returns-then-count-eq0 : goal.returns-then-count-eq0
returns-then-count-eq0 c = λ i b.
    let planes = c.args.block.now.planes.items in
    let idle : bit c.opposite.result i ≡ 0 = none_before c.opposite.result 512 (sym c.count.ensures ∙ c.if-count-eq0.true) i b in
    let on : bit c.plane.result i ≡ 1 = omega (arith, idle, c.opposite.ensures i b, bit-lt c.plane.result i) in
    c.of_field.ensures i b ∙ ap (λ (ps : List Plane). number ps c.args.offset 32 i) c.deref.ensures.value
    ∙ sym (ap (λ t. cond t (number planes c.args.offset 32 i) c.args.other) (eq-eqb (bit (plane_at planes c.args.context) i) 1 (ap (λ p. bit p i) (sym c.plane.ensures) ∙ on)))
