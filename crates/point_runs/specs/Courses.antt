-- How the code of an image ran.
use Rattle.std.specs.Prelude.{◌≡◌, ℕ, List, [], ◌++◌, ◌+◌, ◌-◌, Option, Some, IfSome, true, false}
use Rattle.cstar_io.specs.Input.{Took}
use Rattle.front_end.specs.declared.kept.Kept.{Kept}
use Rattle.paris_code.specs.Memory.{BitMemory, SameBits}
use Rattle.paris_code.specs.Shapes.{shapes_of}
use Rattle.paris_machine.specs.declared.outcome.End.{End}
use Rattle.paris_machine.specs.Runs.{Runs, StaysOver, kept_state}
use Rattle.point_runs.specs.Starts.{Origin}

-- how a run ended, how many instructions it began and how many turns it left, the bytes that it took of
-- the input, the bytes that it printed, and the state and the bits that it left
pub record Course : Type 0 where
  pub end : End
  pub steps : ℕ
  pub left : ℕ
  pub taken : List ℕ
  pub printed : List ℕ
  pub stopped : Kept
  pub memory : BitMemory

-- the code of the image goes this course, from where it begins, with so many turns
pub record IsCourse (from : Origin) (turns : ℕ) (course : Course) : Type 0 where
  pub begun : BitMemory
  pub same : SameBits (shapes_of from.image) begun from.memory
  pub ran : Runs from.image (λ rest. kept_state from.kept turns begun rest []) course.end course.steps
      (λ rest. kept_state course.stopped course.left course.memory rest course.printed) course.stopped.ended course.taken
  pub over : StaysOver from.kept.ended (Some course.end) course.stopped.ended course.taken

-- a source that had some bytes left gave those that the run took, and all where the run met their end
abbrev pub Feeds : Origin → Course → Option (List ℕ) → Option (List ℕ) → Type 0
Feeds from course old new =
    Took old course.taken new × (from.kept.ended ≡ false → course.stopped.ended ≡ true → IfSome new (λ rest. rest ≡ []))

-- a run that stopped, and one that went on from there, as one run: the turn that stopped is begun again
abbrev pub joined : Course → Course → Course
joined first second = record {
  end = second.end;
  steps = first.steps + second.steps - 1;
  left = second.left;
  taken = first.taken ++ second.taken;
  printed = first.printed ++ second.printed;
  stopped = second.stopped;
  memory = second.memory;
}
