-- Runs that stop and are saved, and what becomes of the files.
use Rattle.std.specs.Prelude.{◌≡◌, ◌≢◌, ℕ, Bool, List, Option, Some, None, IsTrue, true, option_map}
use Rattle.checkpoint.specs.declared.point.Point.{Point}
use Rattle.checkpoint.specs.Bytes.{IsHeld, bytes_of}
use Rattle.cstar_io.specs.Faults.{RisesBy}
use Rattle.cstar_io.specs.declared.call.Call.{Call}
use Rattle.cstar_io.specs.declared.call.Call.TheVariants.{Keep}
use Rattle.cstar_words.specs.declared.options.Mode.{Mode}
use Rattle.cstar_words.specs.declared.options.Mode.TheVariants as M
use Rattle.cstar_words.specs.declared.options.Options.{Options}
use Rattle.paris_machine.specs.declared.outcome.End.TheVariants as E
use Rattle.point_laws.specs.Joined.{GoesOn, Keeps}
use Rattle.point_runs.specs.Courses.{Course, Feeds, IsCourse}
use Rattle.point_runs.specs.Points.{point_at}
use Rattle.point_runs.specs.Starts.{Origin}

-- the name under which a run that stops is saved
abbrev pub save_name : Options → Option (List ℕ)
save_name options = option_map (λ name. name.now) options.save

-- no file changed
abbrev pub AllStay : {S : Type 0} → (S → List ℕ → Option (List ℕ)) → S → S → Type 0
AllStay file old new = (name : List ℕ) → file new name ≡ file old name

-- no other file changed
abbrev pub OthersStay : {S : Type 0} → (S → List ℕ → Option (List ℕ)) → S → S → List ℕ → Type 0
OthersStay file old new name = (other : List ℕ) → other ≢ name → file new other ≡ file old other

-- with status 4, where the run was to be saved, a shelf that tells its files holds the bytes of the point at
-- which it stopped, under that name
abbrev pub HoldsPoint : {S : Type 0} → (S → Bool) → (S → List ℕ → Option (List ℕ)) → S → S → Options → ℕ → Origin → Course → Type 0
HoldsPoint tells file old new options status from course =
    status ≡ 4 → (name : List ℕ) → save_name options ≡ Some name
    → IsHeld (point_at from course) × (IsTrue (tells old) → file new name ≡ Some (bytes_of (point_at from course)))

-- so the shelf holds bytes that keep the run, whatever text resumes it
abbrev pub HoldsRun : {S : Type 0} → (S → Bool) → (S → List ℕ → Option (List ℕ)) → S → S → Options → ℕ → Origin → Course → Type 0
HoldsRun tells file old new options status from course =
    status ≡ 4 → (name : List ℕ) → save_name options ≡ Some name
    → (bytes : List ℕ) × Keeps bytes from options.turns course × (IsTrue (tells old) → file new name ≡ Some bytes)

-- in mode resume the run goes on from the one that the text keeps
abbrev pub TakesUp : Mode → List ℕ → ℕ → Course → Type 0
TakesUp M.Resume text turns course = GoesOn text turns course
TakesUp _ text turns course = Unit {0}

-- both are so of the run of a text
abbrev pub IsSaved : {S : Type 0} → (S → Bool) → (S → List ℕ → Option (List ℕ)) → S → S → Options → List ℕ → ℕ → Origin → Course → Type 0
IsSaved tells file old new options text status from course =
    HoldsRun tells file old new options status from course × TakesUp options.mode text options.turns course

-- the run stopped and was to be saved, and no file changed but the one of that name
abbrev pub SavesOne : {S : Type 0} → (S → List ℕ → Option (List ℕ)) → S → S → Option (List ℕ) → Option (List ℕ) → Options → Origin → Type 0
SavesOne file old new left rest options from =
    (name : List ℕ) × (save_name options ≡ Some name) × OthersStay file old new name
    × ((course : Course) × IsCourse from options.turns course × Feeds from course left rest × (course.end ≡ E.Stopped))

-- a shelf failed in the call, and its last failed call is to keep a file of this name
abbrev pub CannotKeep : {S : Type 0} → (S → ℕ) → (S → Option Call) → S → S → List ℕ → Type 0
CannotKeep faults last_failed old new name =
    RisesBy (faults old) (faults new) × (last_failed new ≡ Some (Keep name))

-- so failed the shelf with the point of a run
abbrev pub CannotSaveRun : {S : Type 0} → (S → ℕ) → (S → Option Call) → S → S → Options → Type 0
CannotSaveRun faults last_failed old new options =
    (name : List ℕ) × (save_name options ≡ Some name) × CannotKeep faults last_failed old new name

-- a run came with the point at which it stopped, where it did and is to be saved
abbrev pub ComesWith : Bool → Origin → Option Point → Course → Type 0
ComesWith asked from None course = asked ≡ true → course.end ≢ E.Stopped
ComesWith asked from (Some point) course = (course.end ≡ E.Stopped) × (point ≡ point_at from course)
