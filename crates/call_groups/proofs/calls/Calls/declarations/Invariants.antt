use Rattle.std.proofs.Common.{take}
use Rattle.call_groups.proofs.Declared.{DeclarationsWalk}
use Rattle.call_groups.proofs.calls.Calls.declarations.Given as goal

abbrev pub invariant-loop-declaration : goal.invariant-loop-declaration
invariant-loop-declaration l = DeclarationsWalk l.scope l.fn.self l.self (take l.declaration-index l.declaration-items)
