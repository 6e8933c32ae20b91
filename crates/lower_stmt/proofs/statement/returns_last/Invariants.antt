use Rattle.std.proofs.Common.{◌≡◌, false, drop}
use Rattle.lower_stmt.specs.Statements.{returns_last}
use Rattle.lower_stmt.proofs.statement.returns_last.Given as goal

-- the statements that are left, from here on, give the whole
abbrev pub invariant-loop-statement : goal.invariant-loop-statement
invariant-loop-statement l = returns_last l.returns (drop l.statement-index l.statements) ≡ returns_last false l.statements
