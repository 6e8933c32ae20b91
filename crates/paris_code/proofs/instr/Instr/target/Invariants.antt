use Rattle.std.proofs.Common.{◌≡◌, map, drop}
use Rattle.paris_code.specs.Rows.{shown, target_among, target_of}
use Rattle.paris_code.proofs.instr.Instr.target.Given as goal

abbrev pub invariant-loop-operand : goal.invariant-loop-operand
invariant-loop-operand l = target_among (map shown (drop l.operand-index l.operand-items)) ≡ target_of l.fn.self
