use Rattle.std.proofs.Common.{◌≡◌, drop}
use Rattle.lower_expr.specs.Operands.{all_quiet}
use Rattle.lower_expr.proofs.operands.+quiet.Given as goal

-- the expressions that are left, from here on, give the whole
abbrev pub invariant-are_quiet-loop-e : goal.invariant-are_quiet-loop-e
invariant-are_quiet-loop-e l = all_quiet (drop l.e-index l.es) ≡ all_quiet l.es
