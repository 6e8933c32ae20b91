use Rattle.std.proofs.Common.{◌≡◌, ◌-◌, take, drop}
use Rattle.combine_core.specs.Machine.{first_message}
use Rattle.combine_core.proofs.worker.first_full.Given as goal

abbrev pub invariant-loop-i : goal.invariant-loop-i
invariant-loop-i l = first_message l.i (take (l.to - l.i) (drop l.i l.slots)) ≡ first_message l.from (take (l.to - l.from) (drop l.from l.slots))
