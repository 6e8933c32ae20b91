-- What the calls on a shelf answer.
use Rattle.std.specs.Prelude.{Bool, true, false, Result, Ok, Err}
use Rattle.cstar_io.specs.declared.errors.ShelfErr.{ShelfErr}
use Rattle.cstar_io.specs.declared.errors.ShelfErr.TheVariants.{Failed, Memory}

-- the call failed, and not for want of memory
abbrev pub has_failed : {A : Type 0} → Result A ShelfErr → Bool
has_failed (Ok x) = false
has_failed (Err Failed) = true
has_failed (Err Memory) = false
