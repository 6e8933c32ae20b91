-- The report of how the code of an image ran.
use Rattle.std.specs.Prelude.{◌≡◌, ℕ, Bool, ◌||◌, List, [], ◌∷◌, ◌++◌, ◌==◌, Option, codes, decimal, if◌then◌else◌, ◌⊎◌}
use Rattle.std.specs.List.{concat}
use Rattle.cstar_base.specs.declared.faults.RunFault.{RunFault}
use Rattle.cstar_base.specs.declared.faults.RunFault.TheVariants as F
use Rattle.cstar_base.specs.Faults.{run_number_of}
use Rattle.cstar_io.specs.Output.{Takes, TakesPrefix}
use Rattle.cstar_words.specs.declared.options.Options.{Options}
use Rattle.final_values.specs.Finals.{finals_text}
use Rattle.paris_code.specs.declared.program.Image.{Image}
use Rattle.paris_code.specs.Listing.{listing}
use Rattle.paris_code.specs.Memory.{BitMemory}
use Rattle.paris_code.specs.Shapes.{shapes_of}
use Rattle.paris_machine.specs.declared.outcome.End.{End}
use Rattle.paris_machine.specs.declared.outcome.End.TheVariants as E
use Rattle.point_runs.specs.Courses.{Course, Feeds, IsCourse}
use Rattle.point_runs.specs.Starts.{Origin}
use Rattle.cstar_top.specs.declared.answer.Answer.{Answer}
use Rattle.cstar_top.specs.declared.answer.Answer.TheVariants as A

-- the fault of a run that has a number
abbrev pub run_fault : ℕ → RunFault
run_fault kind = if kind == run_number_of F.Index then F.Index else F.DivZero

-- the answer to an end
abbrev pub answer_to_end : ℕ → End → Answer
answer_to_end turns E.Done = A.Done
answer_to_end turns (E.Fault kind place position) = A.Fault (run_fault kind) place position
answer_to_end turns E.Stopped = A.Stopped turns
answer_to_end turns E.InputBroken = A.InputFault
answer_to_end turns E.OutputBroken = A.WriteFault
answer_to_end turns E.Memory = A.Memory

-- an end is answered so, and a run that stopped and cannot be saved may be answered by that
abbrev pub Answers : ℕ → End → Answer → Type 0
Answers turns end answer = (answer ≡ answer_to_end turns end) ⊎ ((answer ≡ A.CannotSave) × (end ≡ E.Stopped))

-- what stands behind the output of a run that came to its end, a fault or its last turn, and of no other
abbrev pub closing : End → List ℕ → List ℕ
closing E.InputBroken text = []
closing E.OutputBroken text = []
closing E.Memory text = []
closing end text = text

-- `;; N instructions`
abbrev pub steps_line : ℕ → List ℕ
steps_line steps = concat (codes ";; " ∷ decimal steps ∷ codes " instructions\n" ∷ [])

-- a text that is asked for
abbrev pub where_asked : Bool → List ℕ → List ℕ
where_asked asked text = if asked then text else []

-- behind a run's own output: a newline, the final values, the number of instructions
unfoldable pub closing_text : Options → Image → ℕ → BitMemory → List ℕ
closing_text options image steps memory =
    where_asked (options.finals || options.listing) (codes "\n")
    ++ (where_asked options.finals (finals_text (shapes_of image) memory image.finals.items)
    ++ where_asked options.listing (steps_line steps))

-- the listing, what the code printed, and what stands behind that
abbrev pub report : Options → Image → Course → List ℕ
report options image course =
    where_asked options.listing (listing image)
    ++ (course.printed ++ closing course.end (closing_text options image course.steps course.memory))

-- the code went some course from where it began, with this input, the answer is one to its end, a sink
-- took its report, and more is so of the course
abbrev pub Reports : {O : Type 0} → (O → List ℕ → Type 0) → O → O → Option (List ℕ) → Option (List ℕ) → Options → Origin → Answer → (Course → Type 0) → Type 0
Reports agrees old new left rest options from answer More =
    (course : Course) × IsCourse from options.turns course × Feeds from course left rest
    × Answers options.turns course.end answer × Takes agrees old new (report options from.image course) × More course

-- a sink took the first bytes of the listing that is asked for, or of the report of some course
abbrev pub ReportsPart : {O : Type 0} → (O → List ℕ → Type 0) → O → O → Option (List ℕ) → Option (List ℕ) → Options → Origin → Type 0
ReportsPart agrees old new left rest options from =
    TakesPrefix agrees old new (where_asked options.listing (listing from.image))
    ⊎ ((course : Course) × IsCourse from options.turns course × Feeds from course left rest
    × TakesPrefix agrees old new (report options from.image course))
