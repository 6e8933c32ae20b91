-- What the command reports of a run, and the meaning of the text.
use Rattle.std.specs.Prelude.{◌≡◌, ◌<◌, ◌^◌, ℕ, false, List, ◌++◌, Option, Some, length}
use Rattle.cstar_compile.specs.Compiled.{IsCompiled}
use Rattle.cstar_io.specs.Input.{Took}
use Rattle.cstar_top.specs.declared.answer.Answer.{Answer}
use Rattle.cstar_top.specs.Accepted.{IsProgramOf}
use Rattle.cstar_top.specs.Answers.{status_of}
use Rattle.cstar_top.specs.Courses.{Answers, report, where_asked}
use Rattle.cstar_top.specs.Reported.{IsWhole}
use Rattle.cstar_tree.specs.declared.typed.Typed.{Typed}
use Rattle.cstar_words.specs.declared.options.Options.{Options}
use Rattle.paris_code.specs.declared.program.Image.{Image}
use Rattle.paris_code.specs.Listing.{listing}
use Rattle.point_runs.specs.Courses.{Course, Feeds, IsCourse}
use Rattle.point_runs.specs.Starts.{new_start}
use Rattle.source_meaning.specs.Programs.{End, EndsEarly, Run, meaning}
use Rattle.source_meaning.specs.State as Source
use Rattle.code_follows.specs.Agreement.{AreBytes}
use Rattle.scalar_texts.specs.Laws.{HasNoShapes}
use Rattle.scalar_runs.specs.Laws.{told_end}

-- The answer is that to the end of the run. What the run prints stands in the report behind the listing that is
-- asked for, and alone where neither that nor the final values are asked for.
pub record IsReportOf (run : Run) (options : Options) (image : Image) (answer : Answer) (bytes : List ℕ) : Type 0 where
  pub answered : Answers options.turns (told_end run.end) answer
  pub behind : List ℕ
  pub printed : bytes ≡ where_asked options.listing (listing image) ++ (run.final.output ++ behind)
  pub alone : options.finals ≡ false → options.listing ≡ false → bytes ≡ run.final.output

-- The input of a run that ends so: all bytes that the source held, and then their end; but where it ends by a failure
-- of the source, those that were taken of them before it, and then the failure.
abbrev pub IsGiven : List ℕ → Option (List ℕ) → List ℕ → Source.Rest → End → Type 0
IsGiven held left given rest (EndsEarly Source.InputBroken) = Took (Some held) given left × (rest ≡ Source.InputFails)
IsGiven held left given rest end = (given ≡ held) × (rest ≡ Source.InputEnds)

-- The contract of the command tells, in these words, which course the image of a text went, what the source gave it
-- and how it was answered; the output took the report of that course. Where the text is accepted and declares no
-- shape, the answer and the report are those of the run that the text means.
abbrev pub ScalarReportsMeanTheirText : Type 0
ScalarReportsMeanTheirText =
    (text : List ℕ) (typed : Typed) (image : Image) → length text < 2 ^ 32 → IsProgramOf text typed → HasNoShapes typed → IsCompiled typed image →
    (options : Options) (held : List ℕ) (left : Option (List ℕ)) (course : Course) (answer : Answer) → AreBytes held →
    IsCourse (new_start image options.winner) options.turns course → Feeds (new_start image options.winner) course (Some held) left →
    Answers options.turns course.end answer → IsWhole (status_of answer) →
    (given : List ℕ) × ((rest : Source.Rest) × (
    let run : Run = meaning typed given rest options.turns options.winner in
    IsGiven held left given rest run.end × IsReportOf run options image answer (report options image course)))
