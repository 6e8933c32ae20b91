use Rattle.std.proofs.Common.{arith}
use Rattle.job_board.proofs.Keeps.{keeps_nothing}
use Rattle.job_board.proofs.book.Book.new.Goals as goal

pub invariant_of-result : goal.invariant_of-result
invariant_of-result g c = keeps_nothing _ _ c.args.count _ _ c.requires.count c.requires.most (omega (arith, c.in_ok-with_capacity.ensures.capacity)) c.in_ok-with_capacity.ensures.items
