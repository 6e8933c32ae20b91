-- Runs that stopped and are kept as bytes, and the runs that go on from these.
use Rattle.std.specs.Prelude.{◌≡◌, ◌<◌, ◌+◌, ℕ, List, length}
use Rattle.checkpoint.specs.Bytes.{IsHeld, bytes_of}
use Rattle.listed_images.specs.Meaning.{IsListable}
use Rattle.paris_code.specs.Memory.{BitMemory, processors}
use Rattle.paris_code.specs.Shapes.{SetShape, bits_at, shapes_of}
use Rattle.paris_code.specs.Sound.{IsSound}
use Rattle.paris_machine.specs.declared.outcome.End.TheVariants as E
use Rattle.point_runs.specs.Courses.{Course, IsCourse, joined}
use Rattle.point_runs.specs.Points.{Resumes, point_at}
use Rattle.point_runs.specs.Starts.{Origin}

-- each bit of the sets is 0 or 1
abbrev pub HasBits : List SetShape → BitMemory → Type 0
HasBits shapes m =
    (set position index : ℕ) → set < length shapes → position < processors shapes set → index < bits_at shapes set + 2 → m.bit set position index < 2

-- the run of a sound image whose listing determines what its code means; its bits are 0 or 1
pub record IsOrigin (from : Origin) : Type 0 where
  pub sound : IsSound from.image
  pub listable : IsListable from.image
  pub bits : HasBits (shapes_of from.image) from.memory

-- the bytes keep a run: from where it began it went this course with so many turns and stopped, and they are
-- those of the point at which it did
pub record Keeps (bytes : List ℕ) (from : Origin) (turns : ℕ) (course : Course) : Type 0 where
  pub origin : IsOrigin from
  pub ran : IsCourse from turns course
  pub stopped : course.end ≡ E.Stopped
  pub held : IsHeld (point_at from course)
  pub are : bytes_of (point_at from course) ≡ bytes

-- Whatever run the bytes keep, it and a run that went this course with more turns are together the run from
-- where the first began, with all those turns.
abbrev pub GoesOn : List ℕ → ℕ → Course → Type 0
GoesOn bytes more course =
    (from : Origin) (turns : ℕ) (first : Course) → Keeps bytes from turns first → IsCourse from (turns + more) (joined first course)

-- so goes on each run that begins where the bytes say
abbrev pub ResumesWell : List ℕ → Type 0
ResumesWell bytes = (from : Origin) (more : ℕ) (course : Course) → Resumes bytes from → IsCourse from more course → GoesOn bytes more course
