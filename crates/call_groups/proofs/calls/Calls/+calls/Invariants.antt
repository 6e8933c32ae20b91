use Rattle.std.proofs.Common.{take}
use Rattle.call_groups.proofs.Statements.{BlockWalk}
use Rattle.call_groups.proofs.calls.Calls.+calls.Given as goal

abbrev pub invariant-block_in-loop-statement : goal.invariant-block_in-loop-statement
invariant-block_in-loop-statement l = BlockWalk l.scope l.fn.self l.self l.block (take l.statement-index l.statement-items)
