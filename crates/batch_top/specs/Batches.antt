-- What a batch fetches, and what it puts.
use Rattle.std.specs.Prelude.{◌≡◌, ◌<◌, ◌≤◌, ◌⊎◌, ℕ, Bool, List, [], Option, Some, IsTrue, get_or, length, option_map, take}
use Rattle.std.specs.List.{Contains}
use Rattle.cstar_io.specs.Faults.{RisesBy}
use Rattle.cstar_io.specs.Output.{Takes, TakesNothing}
use Rattle.cstar_io.specs.declared.call.Call.{Call}
use Rattle.cstar_io.specs.declared.call.Call.TheVariants.{Fetch}
use Rattle.job_board.specs.declared.report.Report.{Report}
use Rattle.job_callers.specs.Sections.{TakesBatch, TakesPartOfBatch}
use Rattle.batch_jobs.specs.Answering.{AnswersJob}
use Rattle.batch_top.specs.declared.ending.Ending.{Ending}
use Rattle.batch_top.specs.declared.ending.Ending.TheVariants as E
use Rattle.batch_top.specs.Endings.{unread_line}

-- what is fetched of a text: its first 2^20 + 1 bytes
unfoldable pub fetched : List ℕ → List ℕ
fetched text = take 1048577 text

-- the texts are what is fetched of those that a shelf which tells its files holds under the names
abbrev pub AreTexts : {S : Type 0} → (S → Bool) → (S → List ℕ → Option (List ℕ)) → S → List (List ℕ) → List (List ℕ) → Type 0
AreTexts tells file shelf names texts =
    (length texts ≡ length names)
    × ((number : ℕ) → number < length names → IsTrue (tells shelf)
    → option_map fetched (file shelf (get_or names number [])) ≡ Some (get_or texts number []))

-- the report answers the job of this number: that of the text under the name of this number
abbrev pub AnswersNumber : List (List ℕ) → List (List ℕ) → ℕ → Report → Type 0
AnswersNumber names texts number report = AnswersJob (get_or names number []) (get_or texts number []) report

-- a sink took a section for each name, in order: that of the report which answers the job of this name and of what the
-- shelf holds under it
abbrev pub PutsBatch : {S O : Type 0} → (O → List ℕ → Type 0) → O → O → (S → Bool) → (S → List ℕ → Option (List ℕ)) → S → List (List ℕ) → Type 0
PutsBatch agrees old new tells file shelf names =
    (texts : List (List ℕ)) × AreTexts tells file shelf names texts × TakesBatch agrees old new (AnswersNumber names texts) names

-- a sink took nothing, or the first bytes of such sections
abbrev pub PutsPartOfBatch : {S O : Type 0} → (O → List ℕ → Type 0) → O → O → (S → Bool) → (S → List ℕ → Option (List ℕ)) → S → List (List ℕ) → Type 0
PutsPartOfBatch agrees old new tells file shelf names =
    TakesNothing agrees old new
    ⊎ ((texts : List (List ℕ)) × AreTexts tells file shelf names texts × TakesPartOfBatch agrees old new (AnswersNumber names texts) names)

-- why files were not fetched: a fetch of one of the names failed, and it is the last call on the shelf that did; or there was
-- no memory, and no call failed
abbrev pub CannotFetch : {S : Type 0} → (S → ℕ) → (S → Option Call) → S → S → List (List ℕ) → Ending → Type 0
CannotFetch faults last_failed old new names (E.CannotRead name) =
    Contains names name.now × RisesBy (faults old) (faults new) × (last_failed new ≡ Some (Fetch name.now))
CannotFetch faults last_failed old new names E.Memory = faults new ≡ faults old
CannotFetch faults last_failed old new names _ = ⊥

-- a fetch of one of the names was the last call on the shelf that failed, it failed in this command, and a sink took the
-- line on it
abbrev pub CannotReadOne : {S E : Type 0} → (S → ℕ) → (S → Option Call) → S → S → (E → List ℕ → Type 0) → E → E → List (List ℕ) → Type 0
CannotReadOne faults last_failed old new agrees old_err new_err names =
    (name : List ℕ) × Contains names name × RisesBy (faults old) (faults new) × (last_failed new ≡ Some (Fetch name))
    × Takes agrees old_err new_err (unread_line name)
