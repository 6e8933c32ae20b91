use Rattle.std.proofs.Common.{◌≡◌, ◌++◌, drop, length}
use Rattle.lower_stmt.specs.Programs.{finals_of}
use Rattle.lower_stmt.proofs.program.finals.Given as goal

-- those so far, and those of the variables that are left, are the whole
abbrev pub invariant-loop-info : goal.invariant-loop-info
invariant-loop-info l = l.finals.items ++ finals_of (drop l.info-index l.info-items) (length l.finals.items) ≡ finals_of l.info-items 0
