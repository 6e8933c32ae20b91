-- A run of the machine on a program with parallel variables, and the meaning of the text.
use Rattle.std.specs.Prelude.{ℕ, List}
use Rattle.cstar_base.specs.declared.operators.Winner.{Winner}
use Rattle.cstar_compile.specs.Compiled.{IsCompiled}
use Rattle.cstar_top.specs.Accepted.{IsProgramOf}
use Rattle.cstar_tree.specs.declared.typed.Typed.{Typed}
use Rattle.paris_code.specs.declared.program.Image.{Image}
use Rattle.paris_code.specs.Sound.{IsSound}
use Rattle.point_runs.specs.Courses.{Course}
use Rattle.point_runs.specs.Starts.{new_start}
use Rattle.source_meaning.specs.Programs.{Run, meaning}
use Rattle.source_meaning.specs.State as Source
use Rattle.code_follows.specs.Agreement.{AreBytes, mark_of}
use Rattle.fields_follow.specs.Fragment.{IsParallelProgram}
use Rattle.fields_follow.specs.Laws.{HasTheNumbers}
use Rattle.scalar_runs.specs.Laws.{IsRunOf}
use Rattle.turn_laws.specs.Turns.{RunsOn}

-- the machine ran as the meaning says, and left in the memory the numbers of the parallel variables
pub record IsWholeRunOf (typed : Typed) (image : Image) (run : Run) (course : Course) : Type 0 where
  pub as_meant : IsRunOf run course
  pub numbers : HasTheNumbers typed image run.final course.memory

-- each run of the image of an accepted text with such a program, from a new memory, on an input and with some turns,
-- is that of the text's meaning
abbrev pub ParallelRunsMeanTheirText : Type 0
ParallelRunsMeanTheirText =
    (text : List ℕ) (typed : Typed) (image : Image) → IsProgramOf text typed → IsParallelProgram typed → IsCompiled typed image → IsSound image →
    (winner : Winner) (input : List ℕ) (rest : Source.Rest) (turns : ℕ) (course : Course) → AreBytes input →
    RunsOn (new_start image winner) (record { bytes = input; mark = mark_of rest }) turns course → IsWholeRunOf typed image (meaning typed input rest turns winner) course
