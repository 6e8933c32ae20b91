use Rattle.std.proofs.Common.{map}
use Rattle.field_alloc.specs.Lent.{AreMarked, flags_of}
use Rattle.field_alloc.proofs.Marks.{StandBefore}
use Rattle.field_alloc.proofs.lent.mark_all.Given as goal

abbrev pub invariant-loop-entry : goal.invariant-loop-entry
invariant-loop-entry l = AreMarked (StandBefore l.entries l.entry-index) (map flags_of l.initial.flags.items) (map flags_of l.flags.items)
