use Rattle.std.proofs.Common.{◌≡◌, ◌+◌, ◌-◌, ◌<◌, ◌^◌, min, cond, eqb, not, refl, subst, ap, ◌∙◌, arith}
use Rattle.bit_planes.specs.Bits.{bit}
use Rattle.bit_planes.specs.Planes.{plane_at}
use Rattle.reduce_scan.proofs.ExtremeNumbers.{Narrowed, few_bits, narrowed_none, narrowed_step, extreme_is}
use Rattle.reduce_scan.proofs.WithinBlocks.{flag}
use Rattle.reduce_scan.proofs.folds.FieldFold.extreme.Goals as goal

pub overflow_mul-total : goal.overflow_mul-total
overflow_mul-total c = omega (arith, few_bits c.loop-n.n c.loop-n.total (let b : c.loop-n.n < 32 = omega (arith, c.loop-n-test.true, c.from-n-end.ensures, c.requires.field.1) in b) c.loop-n.invariant.small)

pub loop-n-init : goal.loop-n-init
loop-n-init c =
    narrowed_none c.args.greatest c.args.unsigned c.args.block.now.planes.items c.args.self.now.source c.args.self.now.context c.plane-left.result c.plane-left.ensures c.requires.some

pub loop-n-preserved : goal.loop-n-preserved
loop-n-preserved c =
    let g = c.args.greatest in
    let u = c.args.unsigned in
    let planes = c.args.block.now.planes.items in
    let offset = c.args.self.now.source.offset in
    let len = c.args.self.now.source.len in
    let n = c.loop-n.n in
    let inside : n < len = omega (arith, c.loop-n-test.true, c.from-n-end.ensures) in
    let wanted = c.wants_one-wanted.ensures in
    let place : offset + c.from.result - 1 - n ≡ offset + (len - 1 - n) = omega (arith, inside, c.from.ensures) in
    narrowed_step g u planes c.args.self.now.source c.args.self.now.context n inside c.loop-n.left c.both-better.result c.loop-n.total c.loop-n.invariant
    (λ i b. c.both-better.ensures i b
    ∙ ap (min (bit c.loop-n.left i)) (c.having.ensures i b ∙ ap (λ p. flag (eqb (bit p i) (flag c.wants_one-wanted.result))) (c.plane.ensures ∙ ap (plane_at planes) place) ∙ ap (λ t. flag (eqb (bit (plane_at planes (offset + (len - 1 - n))) i) (flag t))) wanted))
    c.count-found.result c.count-found.ensures (not (eqb c.count-found.result 0)) refl c.staying-left.result c.staying-left.ensures c.digit.result
    (c.digit.ensures ∙ ap (λ t. cond (not (eqb c.count-found.result 0)) (cond t 1 0) (cond t 0 1)) wanted)

pub extended-requires-clause-number : goal.extended-requires-clause-number
extended-requires-clause-number c = subst (λ n. c.loop-n.total < 2 ^ n) (let e : c.loop-n.n ≡ c.args.self.now.source.len = omega (arith, c.loop-n-test.false, c.loop-n.auto.n-end, c.from-n-end.ensures) in e) c.loop-n.invariant.small

pub returns : goal.returns
returns c =
    let planes = c.args.block.now.planes.items in
    let a = c.args.self.now.source in
    c.extended.ensures
    ∙ extreme_is c.args.greatest c.args.unsigned planes a c.args.self.now.context c.requires.field.0 c.requires.field.1 c.loop-n.left c.loop-n.total
    (subst (λ n. Narrowed c.args.greatest c.args.unsigned planes a c.args.self.now.context n c.loop-n.left c.loop-n.total)
    (let e : c.loop-n.n ≡ a.len = omega (arith, c.loop-n-test.false, c.loop-n.auto.n-end, c.from-n-end.ensures) in e) c.loop-n.invariant)
