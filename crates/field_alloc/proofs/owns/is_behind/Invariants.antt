use Rattle.field_alloc.specs.Named.{IsBehind}
use Rattle.field_alloc.proofs.owns.is_behind.Given as goal

abbrev pub invariant-loop-set : goal.invariant-loop-set
invariant-loop-set l = IsBehind l.set l.base l.tops l.called
