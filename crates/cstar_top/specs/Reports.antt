-- What the command puts on its error output, and what it says of the outside.
use Rattle.std.specs.Prelude.{◌≡◌, ℕ, List, [], Option, Some, unwrap_or}
use Rattle.cstar_io.specs.Faults.{RisesBy}
use Rattle.cstar_io.specs.Output.{Takes, TakesPrefix}
use Rattle.cstar_io.specs.declared.call.Call.{Call}
use Rattle.cstar_io.specs.declared.call.Call.TheVariants.{Fetch}
use Rattle.cstar_top.specs.declared.answer.Answer.{Answer}
use Rattle.cstar_top.specs.declared.answer.Answer.TheVariants as A
use Rattle.cstar_top.specs.Answers.{line_of, status_of}
use Rattle.cstar_top.specs.Modes.{named, saved_name}
use Rattle.cstar_top.specs.Outcomes.{CanFollow}
use Rattle.cstar_top.specs.Saved.{save_name}
use Rattle.cstar_words.specs.declared.options.Options.{Options}

-- the name that the line of an answer tells: that of the file, or of the point that cannot be saved
abbrev pub name_in : List (List ℕ) → Answer → List ℕ
name_in words A.CannotSave = unwrap_or (saved_name words) []
name_in words answer = named words

-- the same, as the options have it
abbrev pub told_name : Options → Answer → List ℕ
told_name options A.CannotSave = unwrap_or (save_name options) []
told_name options answer = options.file.now

-- a sink takes the line of an answer that the words can come to and that has the status
abbrev pub PutsAnswer : {E : Type 0} → (E → List ℕ → Type 0) → E → E → List (List ℕ) → ℕ → Type 0
PutsAnswer agrees old new words status =
    (answer : Answer) × CanFollow words answer × (status_of answer ≡ status) × Takes agrees old new (line_of (name_in words answer) answer)

-- a sink takes the first bytes of the line of an answer that the words can come to
abbrev pub PutsPartOfAnswer : {E : Type 0} → (E → List ℕ → Type 0) → E → E → List (List ℕ) → Type 0
PutsPartOfAnswer agrees old new words =
    (answer : Answer) × CanFollow words answer × TakesPrefix agrees old new (line_of (name_in words answer) answer)

-- a shelf failed in the call, and its last failed call is a fetch of the file
abbrev pub CannotFetch : {S : Type 0} → (S → ℕ) → (S → Option Call) → S → S → List ℕ → Type 0
CannotFetch faults last_failed old new file =
    RisesBy (faults old) (faults new) × (last_failed new ≡ Some (Fetch file))
