-- Which faults a refusal names, what the command answers where there is no image, and to a file that is too long.
use Rattle.std.specs.Prelude.{◌≡◌, ◌<◌, ◌≤◌, ◌⊎◌, ℕ, Bool, List, Option, Some, IsTrue, length}
use Rattle.cstar_base.specs.declared.faults.Fault.{Fault}
use Rattle.cstar_base.specs.declared.faults.Fault.TheVariants as F
use Rattle.cstar_base.specs.declared.operators.Place.{Place}
use Rattle.cstar_base.specs.Faults.{number_of}
use Rattle.cstar_io.specs.Output.{Takes}
use Rattle.cstar_words.specs.declared.options.Mode.{Mode}
use Rattle.cstar_words.specs.declared.options.Mode.TheVariants as M
use Rattle.cstar_top.specs.declared.answer.Answer.{Answer}
use Rattle.cstar_top.specs.declared.answer.Answer.TheVariants as A
use Rattle.point_runs.specs.declared.refusal.NoImage.{NoImage}
use Rattle.point_runs.specs.declared.refusal.NoImage.TheVariants as N
use Rattle.point_runs.specs.Assembled.{RefusesListing}
use Rattle.point_runs.specs.Points.{RefusesPoint}
use Rattle.point_runs.specs.Refusals.{file_start}
use Rattle.cstar_top.specs.Answers.{line_of}

-- a fault of the text of a program: E01 to E32
abbrev pub IsOfText : Fault → Type 0
IsOfText fault = (1 ≤ number_of fault) × (number_of fault ≤ 32)

-- a fault of a listing: E40 to E48
abbrev pub IsOfListing : Fault → Type 0
IsOfListing fault = (40 ≤ number_of fault) × (number_of fault ≤ 48)

-- the faults that a refusal names in each mode: those of a text, of a listing or of a point, which may be too
-- long; or that an image of the compiler breaks an image rule
abbrev pub CanName : Mode → Fault → Type 0
CanName M.Check fault = IsOfText fault
CanName M.Asm fault = (fault ≡ F.TooLong) ⊎ IsOfListing fault
CanName M.Resume fault = (fault ≡ F.TooLong) ⊎ (40 ≤ number_of fault)
CanName mode fault = (fault ≡ F.NotBuilt) ⊎ IsOfText fault

-- a refusal names such a fault
abbrev pub NamesOnly : (Fault → Type 0) → NoImage → Type 0
NamesOnly Can (N.Refused fault place) = Can fault
NamesOnly Can N.Memory = Unit {0}

-- the answer where there is no image: the refusal has that fault and that place
abbrev pub answer_to_none : NoImage → Answer
answer_to_none (N.Refused fault place) = A.Refused fault place
answer_to_none N.Memory = A.Memory

-- an answer that refuses says why
abbrev pub AnswersWhy : (Fault → Place → Type 0) → Answer → Type 0
AnswersWhy Why (A.Refused fault place) = Why fault place
AnswersWhy Why _ = Unit {0}

-- why a file whose image is to be run is refused
abbrev pub RefusesRun : Mode → List ℕ → Fault → Place → Type 0
RefusesRun M.Asm text fault place = RefusesListing text fault place
RefusesRun M.Resume text fault place = RefusesPoint text fault place
RefusesRun mode text fault place = CanName mode fault

-- a shelf tells its files, and the text that it holds under the name has more bytes than the limit
abbrev pub HoldsLong : {S : Type 0} → (S → Bool) → (S → List ℕ → Option (List ℕ)) → S → ℕ → List ℕ → Type 0
HoldsLong tells file shelf limit name =
    IsTrue (tells shelf) × ((text : List ℕ) × (file shelf name ≡ Some text) × (limit < length text))

-- The file is refused as too long, at its start, and a sink took that line; or the file could not be
-- read, an output failed, or there was no memory.
abbrev pub RefusesLong : {E : Type 0} → (E → List ℕ → Type 0) → E → E → List ℕ → ℕ → Type 0
RefusesLong agrees old new file status =
    ((status ≡ 3) × Takes agrees old new (line_of file (A.Refused F.TooLong file_start)))
    ⊎ ((status ≡ 5) ⊎ ((status ≡ 6) ⊎ (status ≡ 8)))
