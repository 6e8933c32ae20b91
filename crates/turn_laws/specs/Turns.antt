-- Runs on one input from one origin, with some turns and with more.
use Rattle.std.specs.Prelude.{◌≡◌, ◌+◌, ℕ, Bool, true, false, List, ◌++◌, Some}
use Rattle.paris_code.specs.Code.{Rest}
use Rattle.paris_code.specs.Memory.{SameBits}
use Rattle.paris_code.specs.Shapes.{shapes_of}
use Rattle.paris_machine.specs.declared.outcome.End.{End}
use Rattle.paris_machine.specs.declared.outcome.End.TheVariants as E
use Rattle.paris_machine.specs.Runs.{IsLeft, before}
use Rattle.point_runs.specs.Courses.{Course, IsCourse}
use Rattle.point_runs.specs.Starts.{Origin}

-- the end is one of the code: the output took all bytes, and memory did not want
abbrev pub is_of_code : End → Bool
is_of_code E.Done = true
is_of_code (E.Fault kind place position) = true
is_of_code E.Stopped = true
is_of_code E.InputBroken = true
is_of_code E.OutputBroken = false
is_of_code E.Memory = false

-- the input is the bytes that the run took of it and what it then had left
abbrev pub IsInputOf : Rest → Course → Type 0
IsInputOf input course = (later : Rest) × IsLeft course.stopped.ended (Some course.end) later × (input ≡ before course.taken later)

-- the run from this origin on this input with so many turns, to an end of its code
pub record RunsOn (from : Origin) (input : Rest) (turns : ℕ) (course : Course) : Type 0 where
  pub ran : IsCourse from turns course
  pub given : IsInputOf input course
  pub whole : is_of_code course.end ≡ true

-- the second run is the first, with so many turns more left
pub record IsSameRun (from : Origin) (more : ℕ) (first second : Course) : Type 0 where
  pub end : second.end ≡ first.end
  pub steps : second.steps ≡ first.steps
  pub left : second.left ≡ first.left + more
  pub taken : second.taken ≡ first.taken
  pub printed : second.printed ≡ first.printed
  pub bits : SameBits (shapes_of from.image) second.memory first.memory

-- the bytes are the beginning of all
abbrev pub Begins : List ℕ → List ℕ → Type 0
Begins bytes all = (more : List ℕ) × (all ≡ bytes ++ more)

-- What a run prints is the beginning of what it prints with more turns, and a run that did not stop is
-- the same with more.
abbrev pub PrintsOn : Origin → Type 0
PrintsOn from =
    (input : Rest) (turns more : ℕ) (first second : Course) → RunsOn from input turns first → RunsOn from input (turns + more) second
    → Begins first.printed second.printed × ((first.end ≡ E.Stopped → ⊥) → IsSameRun from more first second)
