-- What a call that puts a text answers.
use Rattle.std.specs.Prelude.{◌≡◌, ℕ, List, Result, Ok, Err}
use Rattle.cstar_io.specs.Faults.{RisesBy}
use Rattle.cstar_io.specs.Output.{Takes, TakesPrefix}

-- where the call went well the sink took the text; where it failed, the first bytes of the text, and the count of
-- faults rose
abbrev pub Puts : {S A E : Type 0} → (S → List ℕ → Type 0) → (S → ℕ) → S → S → Result A E → List ℕ → Type 0
Puts agrees faults old new (Ok _) text = Takes agrees old new text × (faults new ≡ faults old)
Puts agrees faults old new (Err _) text = TakesPrefix agrees old new text × RisesBy (faults old) (faults new)
