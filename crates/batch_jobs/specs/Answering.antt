-- Which report answers the job of a file: what the command `cstar --workers 1 -- NAME` says to the
-- file on empty input.
use Rattle.std.specs.Prelude.{◌≡◌, ◌≤◌, ◌<◌, ◌⊎◌, ℕ, Bool, true, false, List, [], ◌∷◌, Option, Some, codes, length}
use Rattle.cstar_base.specs.declared.faults.Fault.{Fault}
use Rattle.cstar_base.specs.declared.faults.Fault.TheVariants as F
use Rattle.cstar_base.specs.declared.operators.Place.{Place}
use Rattle.cstar_base.specs.declared.operators.Winner.TheVariants as W
use Rattle.cstar_words.specs.declared.options.Mode.TheVariants as M
use Rattle.job_board.specs.declared.report.Report.{Report}
use Rattle.paris_machine.specs.declared.outcome.End.{End}
use Rattle.paris_machine.specs.declared.outcome.End.TheVariants as E
use Rattle.cstar_top.specs.declared.answer.Answer.{Answer}
use Rattle.cstar_top.specs.declared.answer.Answer.TheVariants as A
use Rattle.cstar_top.specs.Answers.{line_of, status_of}
use Rattle.cstar_top.specs.Courses.{answer_to_end}
use Rattle.cstar_top.specs.Refusals.{CanName}
use Rattle.cstar_top.specs.Reported.{Begins}
use Rattle.point_runs.specs.Courses.{Course, Feeds, IsCourse}
use Rattle.point_runs.specs.Refusals.{file_start}
use Rattle.point_runs.specs.Starts.{Origin}

-- the words of the command that a job is
abbrev pub words_of_job : List ℕ → List (List ℕ)
words_of_job name = codes "--workers" ∷ codes "1" ∷ codes "--" ∷ name ∷ []

-- the code of an image of the program in the file went this course, on no input, with 1,000,000 turns,
-- and the greatest sender of a collision won
abbrev pub IsRunOf : List ℕ → Origin → Course → Type 0
IsRunOf file from course =
    Begins M.Run W.High file from × IsCourse from 1000000 course × ((rest : Option (List ℕ)) × Feeds from course (Some []) rest)

-- a run came to its end, to a fault, or to its last turn
abbrev pub has_ended : End → Bool
has_ended E.Done = true
has_ended (E.Fault kind place position) = true
has_ended E.Stopped = true
has_ended _ = false

-- the report has the status and the line of an answer for the file of this name
abbrev pub Tells : List ℕ → Answer → Report → Type 0
Tells name answer report = (report.status ≡ status_of answer) × (report.err ≡ line_of name answer)

-- the program in the file was run to an end: the report tells that, and what was printed
abbrev pub ReportsRun : List ℕ → List ℕ → Report → Type 0
ReportsRun name file report =
    (from : Origin) × ((course : Course) × IsRunOf file from course × (has_ended course.end ≡ true)
    × Tells name (answer_to_end 1000000 course.end) report × (report.out ≡ course.printed) × (length course.printed ≤ 1048576))

-- the file is refused for a fault of a program, and that is its length where it has more than 2^20 bytes
abbrev pub ReportsRefusal : List ℕ → List ℕ → Report → Type 0
ReportsRefusal name file report =
    (fault : Fault) × ((place : Place) × CanName M.Run fault × (1048576 < length file → (fault ≡ F.TooLong) × (place ≡ file_start))
    × Tells name (A.Refused fault place) report × (report.out ≡ []))

-- the program in the file was run, and printed more than 2^20 bytes: the status is 10, and nothing stands on the outputs
abbrev pub ReportsTooMuch : List ℕ → Report → Type 0
ReportsTooMuch file report =
    (from : Origin) × ((course : Course) × IsRunOf file from course × (1048576 < length course.printed)
    × (report.status ≡ 10) × (report.out ≡ []) × (report.err ≡ []))

-- the report answers the job of the file of this name
abbrev pub AnswersJob : List ℕ → List ℕ → Report → Type 0
AnswersJob name file report =
    ReportsRun name file report ⊎ (ReportsRefusal name file report ⊎ ReportsTooMuch file report)
