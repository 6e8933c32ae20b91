-- A run of the machine, and the meaning of the text.
use Rattle.std.specs.Prelude.{◌≡◌, ◌<◌, ◌^◌, ℕ, List, length}
use Rattle.cstar_base.specs.declared.operators.Winner.{Winner}
use Rattle.cstar_base.specs.Faults.{run_number_of}
use Rattle.cstar_compile.specs.Compiled.{IsCompiled}
use Rattle.cstar_top.specs.Accepted.{IsProgramOf}
use Rattle.cstar_tree.specs.declared.typed.Typed.{Typed}
use Rattle.paris_code.specs.declared.program.Image.{Image}
use Rattle.paris_machine.specs.declared.outcome.End.{End as RunEnd}
use Rattle.paris_machine.specs.declared.outcome.End.TheVariants as E
use Rattle.point_runs.specs.Courses.{Course}
use Rattle.point_runs.specs.Starts.{new_start}
use Rattle.source_meaning.specs.Programs.{Done, End, EndsEarly, Run, meaning}
use Rattle.source_meaning.specs.State as Source
use Rattle.code_follows.specs.Agreement.{AreBytes, mark_of}
use Rattle.scalar_texts.specs.Laws.{HasNoShapes}
use Rattle.turn_laws.specs.Turns.{RunsOn}

-- the end of a run, as the machine tells it
abbrev pub told_end : End → RunEnd
told_end Done = E.Done
told_end (EndsEarly (Source.Fault fault place position)) = E.Fault (run_number_of fault) place position
told_end (EndsEarly Source.Stopped) = E.Stopped
told_end (EndsEarly Source.InputBroken) = E.InputBroken

-- the machine ran as the meaning says: to the same end, with the same turns left and the same bytes printed
pub record IsRunOf (run : Run) (course : Course) : Type 0 where
  pub end : course.end ≡ told_end run.end
  pub left : course.left ≡ run.final.turns
  pub printed : course.printed ≡ run.final.output

-- each run of the image of an accepted text that declares no shape, on an input and with some turns, is that of
-- the text's meaning
abbrev pub ScalarRunsMeanTheirText : Type 0
ScalarRunsMeanTheirText =
    (text : List ℕ) (typed : Typed) (image : Image) → length text < 2 ^ 32 → IsProgramOf text typed → HasNoShapes typed → IsCompiled typed image →
    (winner : Winner) (input : List ℕ) (rest : Source.Rest) (turns : ℕ) (course : Course) → AreBytes input →
    RunsOn (new_start image winner) (record { bytes = input; mark = mark_of rest }) turns course → IsRunOf (meaning typed input rest turns winner) course
