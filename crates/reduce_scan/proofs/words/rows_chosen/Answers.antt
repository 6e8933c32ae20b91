use Rattle.std.proofs.Common.{◌≡◌, ◌+◌, cond, eqb, subst, ap, ◌∙◌, arith}
use Rattle.std.specs.Int.{bit_at}
use Rattle.std.proofs.lemmas.Nat.Bits.{bit_at-lt}
use Rattle.bit_planes.specs.Bits.{bit}
use Rattle.bit_planes.specs.Planes.{plane_at}
use Rattle.reduce_scan.proofs.WordRuns.{Chosen, chosen_more, digit_is, number_chosen}
use Rattle.reduce_scan.proofs.words.rows_chosen.Goals as goal

pub loop-j-preserved : goal.loop-j-preserved
loop-j-preserved c =
    let planes = c.args.block.now.planes.items in
    let j = c.loop-j.j in
    let x = c.args.other in
    let own = c.plane-own.result in
    chosen_more planes c.args.offset c.args.context x j c.loop-j.planes c.chosen.result c.loop-j-test.true c.loop-j.invariant
    (λ i b. c.chosen.ensures i b ∙ ap (λ m. cond (eqb (bit m i) 1) (bit own i) (bit c.repeated-elsewhere.result i)) c.plane-active.ensures
    ∙ ap (λ p. cond (eqb (bit (plane_at planes c.args.context) i) 1) (bit p i) (bit c.repeated-elsewhere.result i)) c.plane-own.ensures
    ∙ ap (λ d. cond (eqb (bit (plane_at planes c.args.context) i) 1) (bit (plane_at planes (c.args.offset + j)) i) d) (c.repeated-elsewhere.ensures i b ∙ digit_is (bit_at x j) (bit_at-lt x j)))

pub returns : goal.returns
returns c = λ i b.
    let planes = c.args.block.now.planes.items in
    let last : c.loop-j.j ≡ 32 = omega (arith, c.loop-j-test.false, c.loop-j.auto.j-end) in
    c.of_field.ensures i b
    ∙ number_chosen planes c.args.offset c.args.context c.args.other c.loop-j.planes c.ranges.other.fits
    (subst (λ n. Chosen planes c.args.offset c.args.context c.args.other n c.loop-j.planes) last c.loop-j.invariant) i b
