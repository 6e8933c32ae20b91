-- Which of two faults in a file is told.
use Rattle.std.specs.Prelude.{Bool, ◌==◌, nat_lt, if◌then◌else◌}
use Rattle.cstar_base.specs.declared.faults.Fault.{Fault}
use Rattle.cstar_base.specs.declared.operators.Place.{Place}
use Rattle.cstar_base.specs.Faults.{number_of}

-- does a fault at one place come before a fault at another: by place, and then by number?
abbrev pub comes_before : Fault → Place → Fault → Place → Bool
comes_before fault p other q =
    if p.line == q.line
    then (if p.col == q.col then nat_lt (number_of fault) (number_of other) else nat_lt p.col q.col)
    else nat_lt p.line q.line
