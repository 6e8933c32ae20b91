use Rattle.std.proofs.Common.{◌≡◌}
use Rattle.cstar_link.specs.Linked.{code_from, entries_from}
use Rattle.cstar_link.proofs.image.link.Given as goal

abbrev pub invariant-loop-unit : goal.invariant-loop-unit
invariant-loop-unit l = (l.code.items ≡ code_from 0 l.yielded) × (l.entries.items ≡ entries_from 0 l.yielded)
