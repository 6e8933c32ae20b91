use Rattle.std.proofs.Common.{map}
use Rattle.field_alloc.specs.Lent.{flags_of}
use Rattle.field_alloc.proofs.Marks.{AreLentSo}
use Rattle.field_alloc.proofs.lent.lent_entries.Given as goal

abbrev pub invariant-loop-unit : goal.invariant-loop-unit
invariant-loop-unit l = AreLentSo l.units l.unit-index (map flags_of l.flags.items)
