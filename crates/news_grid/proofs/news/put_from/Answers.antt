use Rattle.std.proofs.Common.{◌∙◌, sym, arith}
use Rattle.lane_kernels.proofs.Lifted.{one_up}
use Rattle.lane_kernels.proofs.Steps.{all_small}
use Rattle.news_grid.specs.Steps.{number_seen}
use Rattle.news_grid.proofs.Windows.{seen_bit, seen-lt}
use Rattle.news_grid.proofs.news.put_from.Goals as goal

pub loop-j-preserved : goal.loop-j-preserved
loop-j-preserved c =
    one_up c.args.to.now c.loop-j.j (λ i. number_seen c.args.held.now c.args.window.now c.args.to.now.len i) c.args.planes.now c.loop-j.planes c.write.new.planes c.plane.result c.loop-j.invariant c.write.ensures
    (λ i ib on. c.plane.ensures i ib ∙ sym (seen_bit c.args.held.now c.args.window.now c.args.to.now.len i c.loop-j.j c.loop-j-test.true))

pub returns : goal.returns
returns c =
    all_small c.args.to.now c.loop-j.j (λ i. number_seen c.args.held.now c.args.window.now c.args.to.now.len i) c.args.planes.now c.loop-j.planes (omega arith)
    (λ i. seen-lt c.args.held.now c.args.window.now c.args.to.now.len i) c.loop-j.invariant
