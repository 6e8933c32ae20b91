use Rattle.lane_kernels.proofs.Ones.{ones_before-none, counted_more}
use Rattle.lane_kernels.proofs.counting.count.Goals as goal

pub loop-word-init : goal.loop-word-init
loop-word-init c = ones_before-none c.args.mask

pub overflow_add-total : goal.overflow_add-total
overflow_add-total c = record { fits = (counted_more c.args.mask c.fits-mask.0 c.fits-mask.1 c.loop-word.word c.loop-word-test.true c.loop-word.total c.loop-word.invariant).1 }

pub loop-word-preserved : goal.loop-word-preserved
loop-word-preserved c = (counted_more c.args.mask c.fits-mask.0 c.fits-mask.1 c.loop-word.word c.loop-word-test.true c.loop-word.total c.loop-word.invariant).0
