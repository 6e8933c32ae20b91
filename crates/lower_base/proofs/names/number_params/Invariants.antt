use Rattle.std.proofs.Common.{◌≡◌, ◌++◌, drop, take, fold}
use Rattle.lower_base.specs.Layouts.{behind, param_entries}
use Rattle.lower_base.proofs.names.number_params.Given as goal

abbrev pub invariant-loop-info : goal.invariant-loop-info
invariant-loop-info l = record {
  entries : l.entries.items ++ param_entries l.next (drop l.info-index l.params) ≡ l.initial.entries.items ++ param_entries 0 l.params;
  next : l.next ≡ fold behind 0 (take l.info-index l.params);
}
