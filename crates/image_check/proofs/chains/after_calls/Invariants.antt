use Rattle.std.proofs.Common.{length}
use Rattle.image_check.specs.Calls.{AreMarks, IsBehind}
use Rattle.image_check.proofs.chains.after_calls.Given as goal

abbrev pub invariant-loop-done : goal.invariant-loop-done
invariant-loop-done l = AreMarks (length l.fn.start.items) l.marks.items (IsBehind l.calls l.fn.start.items l.done)
