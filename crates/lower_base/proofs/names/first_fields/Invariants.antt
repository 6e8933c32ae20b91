use Rattle.std.proofs.Common.{◌≡◌, ◌++◌, drop}
use Rattle.lower_base.specs.Layouts.{first_fields}
use Rattle.lower_base.proofs.names.first_fields.Given as goal

abbrev pub invariant-loop-info : goal.invariant-loop-info
invariant-loop-info l = l.files.items ++ first_fields l.next (drop l.info-index l.vars) ≡ first_fields 0 l.vars
