use Rattle.file_names.proofs.Items.{Collected}
use Rattle.file_names.proofs.collect.Given as goal

abbrev pub invariant-loop-item : goal.invariant-loop-item
invariant-loop-item l = Collected l.initial.file l.declared-items l.item l.file l.numbering
