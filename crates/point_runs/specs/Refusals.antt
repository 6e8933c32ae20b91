-- Refusals of files.
use Rattle.cstar_base.specs.declared.faults.Fault.{Fault}
use Rattle.cstar_base.specs.declared.operators.Place.{Place}
use Rattle.point_runs.specs.declared.refusal.NoImage.{NoImage}
use Rattle.point_runs.specs.declared.refusal.NoImage.TheVariants as N

-- where a fault of a whole file is told
abbrev pub file_start : Place
file_start = record { line = 1; col = 1 }

-- a refusal says why
abbrev pub TellsWhy : (Fault → Place → Type 0) → NoImage → Type 0
TellsWhy Why (N.Refused fault place) = Why fault place
TellsWhy Why N.Memory = Unit {0}
