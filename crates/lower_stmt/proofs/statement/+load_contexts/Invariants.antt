use Rattle.lower_stmt.proofs.statement.+load_contexts.Given as goal

abbrev pub decreases-load_contexts : goal.decreases-load_contexts
decreases-load_contexts l = l.newest
