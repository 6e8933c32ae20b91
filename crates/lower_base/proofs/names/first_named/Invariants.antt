use Rattle.std.proofs.Common.{◌≡◌, drop}
use Rattle.lower_base.specs.Layouts.{first_named}
use Rattle.lower_base.proofs.names.first_named.Given as goal

abbrev pub invariant-loop-number : goal.invariant-loop-number
invariant-loop-number l = first_named l.number l.name (drop l.number l.instances) ≡ first_named 0 l.name l.instances
