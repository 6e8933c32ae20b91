use Rattle.std.proofs.Common.{◌≡◌, drop}
use Rattle.lower_base.specs.Drafts.{draft}
use Rattle.lower_stmt.specs.Programs.{own_fields_of}
use Rattle.lower_stmt.proofs.program.own_fields.Given as goal

-- the parameters that are left, from here on, give the whole
abbrev pub invariant-loop-param : goal.invariant-loop-param
invariant-loop-param l = own_fields_of (drop l.param-index l.params) (draft l.u) ≡ own_fields_of l.params (draft l.fn.u)
