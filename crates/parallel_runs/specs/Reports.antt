-- What the command reports of a run with parallel variables, and the meaning of the text.
use Rattle.std.specs.Prelude.{◌≡◌, ℕ, List, Option, Some}
use Rattle.cstar_compile.specs.Compiled.{IsCompiled}
use Rattle.cstar_top.specs.declared.answer.Answer.{Answer}
use Rattle.cstar_top.specs.Accepted.{IsProgramOf}
use Rattle.cstar_top.specs.Answers.{status_of}
use Rattle.cstar_top.specs.Courses.{Answers, report}
use Rattle.cstar_top.specs.Reported.{IsWhole}
use Rattle.cstar_tree.specs.declared.typed.Typed.{Typed}
use Rattle.cstar_words.specs.declared.options.Options.{Options}
use Rattle.paris_code.specs.declared.program.Image.{Image}
use Rattle.paris_code.specs.Sound.{IsSound}
use Rattle.point_runs.specs.Courses.{Course, Feeds, IsCourse}
use Rattle.point_runs.specs.Starts.{new_start}
use Rattle.source_meaning.specs.Programs.{Run, meaning}
use Rattle.source_meaning.specs.State as Source
use Rattle.code_follows.specs.Agreement.{AreBytes}
use Rattle.fields_follow.specs.Fragment.{IsParallelProgram}
use Rattle.fields_follow.specs.Laws.{HasTheNumbers}
use Rattle.scalar_runs.specs.Reports.{IsGiven, IsReportOf}
use Rattle.parallel_runs.specs.Finals.{meant_report}

-- Of a course of which the contract of the command tells, as in the law on scalar texts, the answer and the report are
-- those of the run that the text means, with the final values of its parallel variables where they are asked for; and
-- the memory has the numbers of these.
abbrev pub ParallelReportsMeanTheirText : Type 0
ParallelReportsMeanTheirText =
    (text : List ℕ) (typed : Typed) (image : Image) → IsProgramOf text typed → IsParallelProgram typed → IsCompiled typed image → IsSound image →
    (options : Options) (held : List ℕ) (left : Option (List ℕ)) (course : Course) (answer : Answer) → AreBytes held →
    IsCourse (new_start image options.winner) options.turns course → Feeds (new_start image options.winner) course (Some held) left →
    Answers options.turns course.end answer → IsWhole (status_of answer) →
    (given : List ℕ) × ((rest : Source.Rest) × (
    let run : Run = meaning typed given rest options.turns options.winner in
    IsGiven held left given rest run.end × IsReportOf run options image answer (report options image course) × (report options image course ≡ meant_report options image typed run course.steps) × HasTheNumbers typed image run.final course.memory))
