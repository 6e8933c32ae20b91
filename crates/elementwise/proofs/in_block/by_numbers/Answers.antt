use Rattle.std.proofs.Common.{◌<◌, ◌^◌, sym, subst}
use Rattle.lane_kernels.proofs.Lifted.{operand_of-lt}
use Rattle.elementwise.proofs.in_block.by_numbers.Goals as goal

pub operated-words-requires-clause-x : goal.operated-words-requires-clause-x
operated-words-requires-clause-x c = λ i b.
    subst (λ n. n < 2 ^ c.args.to.now.len) (sym (c.words_of_operand-x.ensures i b)) (operand_of-lt c.args.a.now c.args.block.now.planes.items c.args.to.now.len i)

pub operated-words-requires-clause-y : goal.operated-words-requires-clause-y
operated-words-requires-clause-y c = λ i b.
    subst (λ n. n < 2 ^ c.args.to.now.len) (sym (c.words_of_operand-y.ensures i b)) (operand_of-lt c.args.b.now c.args.block.now.planes.items c.args.to.now.len i)
