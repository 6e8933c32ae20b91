use Rattle.std.proofs.Common.{ℕ, ◌<◌, ◌≤◌, get_or}
use Rattle.paris_code.specs.declared.instr.Instr.{Instr}
use Rattle.front_end.specs.Front.{argument_limit}
use Rattle.front_end.proofs.kept.argument_room.Given as goal

abbrev pub invariant-code : goal.invariant-code
invariant-code l = (2 ≤ l.most) × ((k : ℕ) (d : Instr) → k < l.instr-index → argument_limit (get_or l.code k d) ≤ l.most)
