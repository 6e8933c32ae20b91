use Rattle.std.proofs.Common.{◌≡◌, ◌++◌, map}
use Rattle.cstar_link.specs.Linked.{moved_by}
use Rattle.cstar_link.proofs.image.append.Given as goal

abbrev pub invariant-loop-instr : goal.invariant-loop-instr
invariant-loop-instr l = l.code.items ≡ l.initial.code.items ++ map (moved_by l.start) l.yielded
