-- Each relation, by the kernels of `equal` and `less`.
use Rattle.std.proofs.Common.{◌-◌, true, false, ◌∙◌, ap}
use Rattle.bit_planes.specs.Bits.{bit}
use Rattle.lane_kernels.specs.Kernels.{operand_of}
use Rattle.lane_kernels.proofs.Lifted.{operand_of-lt}
use Rattle.paris_code.specs.declared.operands.Compare.TheVariants as R
use Rattle.elementwise.proofs.Orders.{held, equal_flag, differ_flag, below_flag, above_flag, at_most_flag, at_least_flag}
use Rattle.elementwise.proofs.relations.Relation.plane.Goals as goal
use Rattle.elementwise.proofs.relations.Relation.plane.Goals.{in-UEq, in-UNe, in-SLt, in-SLe, in-SGt, in-SGe, in-ULt, in-ULe, in-UGt, in-UGe}

pub returns : goal.returns
returns c = λ i b.
    let r = c.args.self.now in
    let n = r.len in
    let l = c.requires.len.0 in
    let x = operand_of r.a c.args.planes.now n i in
    let y = operand_of r.b c.args.planes.now n i in
    let p = operand_of-lt r.a c.args.planes.now n i in
    let q = operand_of-lt r.b c.args.planes.now n i in
    elim c.match-self.branch [
      | in-UEq w ↦ held r.relation R.UEq n x y _ _ w.in-UEq.is (ap (λ v. bit v i) w.result-is ∙ w.equal.ensures i b) (equal_flag n x y)
      | in-UNe w ↦ held r.relation R.UNe n x y _ _ w.in-UNe.is (ap (λ v. bit v i) w.result-is ∙ w.opposite.ensures i b ∙ ap (λ k. 1 - k) (w.equal-in-UNe.ensures i b)) (differ_flag n x y)
      | in-SLt w ↦ held r.relation R.SLt n x y _ _ w.in-SLt.is (ap (λ v. bit v i) w.result-is ∙ w.less.ensures i b) (below_flag false n x y l p q)
      | in-SLe w ↦ held r.relation R.SLe n x y _ _ w.in-SLe.is (ap (λ v. bit v i) w.result-is ∙ w.opposite-in-SLe.ensures i b ∙ ap (λ k. 1 - k) (w.less-in-SLe.ensures i b)) (at_most_flag false n x y l p q)
      | in-SGt w ↦ held r.relation R.SGt n x y _ _ w.in-SGt.is (ap (λ v. bit v i) w.result-is ∙ w.less-in-SGt.ensures i b) (above_flag false n x y l p q)
      | in-SGe w ↦ held r.relation R.SGe n x y _ _ w.in-SGe.is (ap (λ v. bit v i) w.result-is ∙ w.opposite-in-SGe.ensures i b ∙ ap (λ k. 1 - k) (w.less-in-SGe.ensures i b)) (at_least_flag false n x y l p q)
      | in-ULt w ↦ held r.relation R.ULt n x y _ _ w.in-ULt.is (ap (λ v. bit v i) w.result-is ∙ w.less-in-ULt.ensures i b) (below_flag true n x y l p q)
      | in-ULe w ↦ held r.relation R.ULe n x y _ _ w.in-ULe.is (ap (λ v. bit v i) w.result-is ∙ w.opposite-in-ULe.ensures i b ∙ ap (λ k. 1 - k) (w.less-in-ULe.ensures i b)) (at_most_flag true n x y l p q)
      | in-UGt w ↦ held r.relation R.UGt n x y _ _ w.in-UGt.is (ap (λ v. bit v i) w.result-is ∙ w.less-in-UGt.ensures i b) (above_flag true n x y l p q)
      | in-UGe w ↦ held r.relation R.UGe n x y _ _ w.in-UGe.is (ap (λ v. bit v i) w.result-is ∙ w.opposite-in-UGe.ensures i b ∙ ap (λ k. 1 - k) (w.less-in-UGe.ensures i b)) (at_least_flag true n x y l p q)
    ]
