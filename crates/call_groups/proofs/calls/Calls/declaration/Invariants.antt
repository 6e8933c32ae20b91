use Rattle.std.proofs.Common.{take}
use Rattle.call_groups.proofs.Declared.{DeclaratorsWalk}
use Rattle.call_groups.proofs.calls.Calls.declaration.Given as goal

abbrev pub invariant-loop-declarator : goal.invariant-loop-declarator
invariant-loop-declarator l = DeclaratorsWalk l.scope l.fn.self l.self (take l.declarator-index l.declarator-items)
