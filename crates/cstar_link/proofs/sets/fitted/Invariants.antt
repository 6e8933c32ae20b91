use Rattle.std.proofs.Common.{◌≡◌, length}
use Rattle.cstar_link.specs.Sets.{fields_named, fitted_from}
use Rattle.cstar_link.proofs.sets.fitted.Given as goal

abbrev pub invariant-loop-shape : goal.invariant-loop-shape
invariant-loop-shape l = record {
  long : length l.over.items ≡ length l.yielded;
  fitted : l.over.items ≡ fitted_from (fields_named l.code l.finals) 0 l.yielded;
}
