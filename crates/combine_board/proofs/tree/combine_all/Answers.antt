use Rattle.std.proofs.Common.{ℕ, ap, subst}
use Rattle.combine_board.specs.Tree.{IsFinished}
use Rattle.combine_board.proofs.Workers.{finished_complete}
use Rattle.combine_board.proofs.tree.combine_all.Goals as goal

pub close-requires-clause-complete : goal.close-requires-clause-complete
close-requires-clause-complete g c =
    finished_complete c.args.board.plan.slots c.work-whole.result.worker
    (subst (λ (n : ℕ). IsFinished c.args.board.plan.slots n c.work-whole.result.worker) (ap (λ w. w.draws) c.requires.fresh) c.work-whole.ensures.finished)
