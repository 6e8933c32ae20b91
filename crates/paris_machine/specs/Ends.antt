-- How runs end, and what that says of the outside.
use Rattle.std.specs.Prelude.{◌≡◌, ℕ, Bool, true, false, Option, Some, None}
use Rattle.cstar_base.specs.declared.faults.RunFault.{RunFault}
use Rattle.cstar_base.specs.Faults.{run_number_of}
use Rattle.cstar_io.specs.Faults.{RisesBy}
use Rattle.paris_machine.specs.declared.outcome.End.{End}
use Rattle.paris_machine.specs.declared.outcome.End.TheVariants as E

-- the end says that a call on the input failed, that one on the output did
abbrev pub input_broke : End → Bool
input_broke E.InputBroken = true
input_broke _ = false

abbrev pub output_broke : End → Bool
output_broke E.OutputBroken = true
output_broke _ = false

-- the same of an end that may not have come
abbrev pub input_broke_in : Option End → Bool
input_broke_in None = false
input_broke_in (Some end) = input_broke end

abbrev pub output_broke_in : Option End → Bool
output_broke_in None = false
output_broke_in (Some end) = output_broke end

-- a fault is told by the number of one of a run
abbrev pub IsNumbered : End → Type 0
IsNumbered (E.Fault kind place position) = (fault : RunFault) × (run_number_of fault ≡ kind)
IsNumbered _ = Unit {0}

-- the count of faults rose exactly where one is told
abbrev pub Tells : Bool → ℕ → ℕ → Type 0
Tells true old new = RisesBy old new
Tells false old new = new ≡ old
