-- The report of the command in the modes that run the image of a file.
use Rattle.std.specs.Prelude.{◌≡◌, ◌≤◌, ℕ, Bool, true, ◌⊎◌, List, Option, Some, IsTrue, length}
use Rattle.cstar_base.specs.declared.operators.Winner.{Winner}
use Rattle.cstar_words.specs.declared.options.Mode.{Mode}
use Rattle.cstar_words.specs.declared.options.Mode.TheVariants as M
use Rattle.cstar_words.specs.declared.options.Options.{Options}
use Rattle.listed_images.specs.Meaning.{IsListable}
use Rattle.paris_code.specs.declared.program.Image.{Image}
use Rattle.paris_code.specs.Listing.{listing}
use Rattle.paris_code.specs.Sound.{IsSound}
use Rattle.point_runs.specs.Assembled.{FitsMachine}
use Rattle.point_runs.specs.Courses.{Course}
use Rattle.point_runs.specs.Points.{Resumes}
use Rattle.point_runs.specs.Starts.{Origin, new_start}
use Rattle.cstar_top.specs.declared.answer.Answer.{Answer}
use Rattle.cstar_top.specs.Accepted.{IsImageOf}
use Rattle.cstar_top.specs.Courses.{Reports, ReportsPart}
use Rattle.cstar_top.specs.Modes.{AsksFor, runs_image}

-- the words ask for such a mode
abbrev pub AsksToRun : List (List ℕ) → Type 0
AsksToRun words = (mode : Mode) × AsksFor mode words × (runs_image mode ≡ true)

-- the statuses of runs whose output was taken whole: they came to an end, a fault, the last turn, or a failed
-- input, or stopped and cannot be saved
abbrev pub IsWhole : ℕ → Type 0
IsWhole status = (status ≡ 0) ⊎ ((status ≡ 1) ⊎ ((status ≡ 4) ⊎ ((status ≡ 7) ⊎ (status ≡ 9))))

-- Where a run of a text of no more than 2^20 bytes begins: it is a new run of an image that keeps the image
-- rules, and whose listing determines what its code means. In mode asm the text is its listing, and the machine has what it asks for; else the image is what
-- the compiler makes of the text's program. In mode resume the run goes on from the point that the text is.
abbrev pub Begins : Mode → Winner → List ℕ → Origin → Type 0
Begins M.Asm winner text from =
    (image : Image) × (length text ≤ 1048576) × IsSound image × IsListable image × (listing image ≡ text) × FitsMachine image × (from ≡ new_start image winner)
Begins M.Resume winner text from = Resumes text from
Begins _ winner text from =
    (image : Image) × (length text ≤ 1048576) × IsSound image × IsListable image × IsImageOf text image × (from ≡ new_start image winner)

-- a sink took the report of a run of the text
abbrev pub ReportsText : {O : Type 0} → (O → List ℕ → Type 0) → O → O → Option (List ℕ) → Option (List ℕ) → Options → List ℕ → Answer → (Origin → Course → Type 0) → Type 0
ReportsText agrees old new left rest options text answer More =
    (from : Origin) × Begins options.mode options.winner text from × Reports agrees old new left rest options from answer (More from)

-- a sink took the first bytes of such a report
abbrev pub ReportsTextPart : {O : Type 0} → (O → List ℕ → Type 0) → O → O → Option (List ℕ) → Option (List ℕ) → Options → List ℕ → Type 0
ReportsTextPart agrees old new left rest options text =
    (from : Origin) × Begins options.mode options.winner text from × ReportsPart agrees old new left rest options from

-- a shelf that tells its files holds this text under the name
abbrev pub Holds : {S : Type 0} → (S → Bool) → (S → List ℕ → Option (List ℕ)) → S → List ℕ → List ℕ → Type 0
Holds tells file shelf name text = IsTrue (tells shelf) → file shelf name ≡ Some text
