-- Runs that are kept, and runs that go on from these.
use Rattle.std.proofs.Common.{ℕ, Bool, List, Option, refl, subst, sym}
use Rattle.checkpoint.specs.Bytes.{bytes_of}
use Rattle.cstar_base.specs.declared.operators.Winner.{Winner}
use Rattle.cstar_words.specs.declared.options.Mode.{Mode}
use Rattle.cstar_words.specs.declared.options.Mode.TheVariants as M
use Rattle.cstar_words.specs.declared.options.Options.{Options}
use Rattle.point_laws.specs.Joined.{IsOrigin}
use Rattle.point_laws.proofs.Joining.{resumes_well}
use Rattle.point_laws.proofs.Origins.{new_origin, resumed_origin}
use Rattle.point_runs.specs.Courses.{Course, IsCourse}
use Rattle.point_runs.specs.Points.{point_at}
use Rattle.point_runs.specs.Starts.{Origin}
use Rattle.cstar_top.specs.declared.answer.Answer.{Answer}
use Rattle.cstar_top.specs.Answers.{status_of}
use Rattle.cstar_top.specs.Courses.{Reports}
use Rattle.cstar_top.specs.Reported.{Begins}
use Rattle.cstar_top.specs.Saved.{HoldsPoint, IsSaved, TakesUp}
use Rattle.cstar_top.proofs.Stopping.{stopped_of}

-- where the run of a text begins, its image and its bits are such that it can be kept
begins_origin : (mode : Mode) (winner : Winner) (text : List ℕ) (from : Origin) → Begins mode winner text from → IsOrigin from
begins_origin M.Asm winner text from (image, within, sound, listable, listed, fits, is) =
    subst (λ (o : Origin). IsOrigin o) (sym is) (new_origin image winner sound listable)
begins_origin M.Resume winner text from resumes = resumed_origin text from resumes
begins_origin _ winner text from begins =
    subst (λ (o : Origin). IsOrigin o) (sym begins.5) (new_origin begins.0 winner begins.2 begins.3)

-- and one that is resumed goes on from the run that the text keeps
begins_taken : (mode : Mode) (winner : Winner) (text : List ℕ) (from : Origin) (turns : ℕ) (course : Course) → Begins mode winner text from → IsCourse from turns course → TakesUp mode text turns course
begins_taken M.Resume winner text from turns course begins ran = resumes_well text from turns course begins ran
begins_taken _ winner text from turns course begins ran = tt

-- the report of a run whose point is held
pub report_saved : {S O : Type 0} (agrees : O → List ℕ → Type 0) (s t : O) (left rest : Option (List ℕ)) (tells : S → Bool) (file : S → List ℕ → Option (List ℕ)) (old new : S) (options : Options) (text : List ℕ) (from : Origin) (answer : Answer) → Begins options.mode options.winner text from
    → Reports agrees s t left rest options from answer (HoldsPoint tells file old new options (status_of answer) from) → Reports agrees s t left rest options from answer (IsSaved tells file old new options text (status_of answer) from)
report_saved agrees s t left rest tells file old new options text from answer begins said = (
  said.0,
  said.1,
  said.2,
  said.3,
  said.4,
  (
    (λ four name is.
        let held = said.5 four name is in (
          bytes_of (point_at from said.0),
          record {
            origin = begins_origin options.mode options.winner text from begins;
            ran = said.1;
            stopped = stopped_of options.turns said.0.end answer said.3 four;
            held = held.0;
            are = refl;
          },
          held.1,
        )),
    begins_taken options.mode options.winner text from options.turns said.0 begins said.1,
  ),
)
