-- The faults that typing answers.
use Rattle.std.specs.Prelude.{true, ◌≡◌}
use Rattle.cstar_base.specs.Faults.{number_of}
use Rattle.cstar_base.specs.declared.faults.Fault.{Fault}
use Rattle.type_scopes.specs.TypingFaults.{is_of_typing}
use Rattle.shape_types.specs.declared.TypeFault.{TypeFault}
use Rattle.shape_types.specs.declared.TypeFault.TheVariants as T

-- a fault is told by the number of one of typing's
abbrev pub IsListedFault : TypeFault → Type 0
IsListedFault (T.Fault number _) = (fault : Fault) × (is_of_typing fault ≡ true) × (number_of fault ≡ number)
IsListedFault T.Memory = Unit {0}
