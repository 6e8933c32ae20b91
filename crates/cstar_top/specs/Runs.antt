-- What a run can come to.
use Rattle.std.specs.Prelude.{◌≡◌, ℕ}
use Rattle.cstar_top.specs.declared.answer.Answer.{Answer}
use Rattle.cstar_top.specs.declared.answer.Answer.TheVariants as A

-- an answer of a run that began with so many turns: none that says that it did not
abbrev pub IsEndOfRun : ℕ → Answer → Type 0
IsEndOfRun turns A.Usage = ⊥
IsEndOfRun turns (A.Refused fault place) = ⊥
IsEndOfRun turns A.CannotRead = ⊥
IsEndOfRun turns (A.Stopped spent) = spent ≡ turns
IsEndOfRun turns _ = Unit {0}
