use Rattle.std.proofs.Common.{◌≡◌, ◌-◌}
use Rattle.lower_base.specs.Drafts.{draft}
use Rattle.lower_stmt.specs.Variables.{cleared_fields}
use Rattle.lower_stmt.proofs.variables.clear_fields.Given as goal

-- the fields that are left, from here on, give the whole
abbrev pub invariant-loop : goal.invariant-loop
invariant-loop l =
    cleared_fields (l.entries - l.counter) l.set l.len (draft l.u) ≡ cleared_fields l.entries l.set l.len (draft l.fn.u)
