-- Which answers a mode can give, and which the words can come to.
use Rattle.std.specs.Prelude.{◌≡◌, ℕ, true, false, List}
use Rattle.cstar_words.specs.declared.options.Mode.{Mode}
use Rattle.cstar_words.specs.Reading.{is_command}
use Rattle.cstar_top.specs.declared.answer.Answer.{Answer}
use Rattle.cstar_top.specs.declared.answer.Answer.TheVariants as A
use Rattle.cstar_top.specs.Modes.{AsksFor, budget_in, reads_file, runs_code, runs_image}
use Rattle.cstar_top.specs.Refusals.{CanName}

-- the answers that a mode can give: only code that runs can end in a fault or be stopped, once it has
-- spent all its turns, and only a run that reads the input can fail at it, or be saved in vain
abbrev pub CanAnswer : Mode → ℕ → Answer → Type 0
CanAnswer mode turns A.Done = Unit {0}
CanAnswer mode turns (A.Fault fault place position) = runs_code mode ≡ true
CanAnswer mode turns A.Usage = ⊥
CanAnswer mode turns (A.Refused fault place) = CanName mode fault
CanAnswer mode turns (A.Stopped spent) = (runs_code mode ≡ true) × (spent ≡ turns)
CanAnswer mode turns A.CannotRead = reads_file mode ≡ true
CanAnswer mode turns A.WriteFault = Unit {0}
CanAnswer mode turns A.InputFault = runs_image mode ≡ true
CanAnswer mode turns A.Memory = Unit {0}
CanAnswer mode turns A.CannotSave = runs_image mode ≡ true

-- the answers that words can come to: usage where they are no command, and else what their mode can give
abbrev pub CanFollow : List (List ℕ) → Answer → Type 0
CanFollow words A.Usage = is_command words ≡ false
CanFollow words A.Memory = Unit {0}
CanFollow words answer = (is_command words ≡ true) × ((mode : Mode) × AsksFor mode words × CanAnswer mode (budget_in mode words) answer)
