-- The report of a run tells the run that the text means.
use Rattle.std.proofs.Common.{◌≡◌, ◌∙◌, inl, inr, ℕ, ◌<◌, ◌^◌, Bool, true, false, List, [], ◌++◌, Option, Some, None, IfSome, length, take, refl, sym, ap, subst, arith}
use Rattle.std.proofs.Math.Seq.{take-append_seam}
use Rattle.std.proofs.lemmas.List.{append-nil}
use Rattle.std.proofs.lemmas.List.Elements.{All-take}
use Rattle.cstar_io.specs.Input.{Took}
use Rattle.cstar_top.specs.declared.answer.Answer.{Answer}
use Rattle.cstar_top.specs.Answers.{status_of}
use Rattle.cstar_top.specs.Courses.{Answers, closing, closing_text, report, where_asked}
use Rattle.cstar_top.specs.Reported.{IsWhole}
use Rattle.cstar_words.specs.declared.options.Options.{Options}
use Rattle.paris_code.specs.declared.program.Image.{Image}
use Rattle.paris_code.specs.Code.{Rest}
use Rattle.paris_code.specs.Listing.{listing}
use Rattle.paris_machine.specs.declared.outcome.End.{End as RunEnd}
use Rattle.paris_machine.specs.declared.outcome.End.TheVariants as E
use Rattle.paris_machine.specs.Ends.{input_broke}
use Rattle.paris_machine.specs.Runs.{IsLeft, before}
use Rattle.point_runs.specs.Courses.{Course, Feeds, IsCourse}
use Rattle.point_runs.specs.Starts.{new_start}
use Rattle.source_meaning.specs.Programs.{Done, End, EndsEarly, Run, meaning}
use Rattle.source_meaning.specs.State as Source
use Rattle.code_follows.specs.Agreement.{AreBytes, mark_of}
use Rattle.turn_laws.specs.Turns.{RunsOn, is_of_code}
use Rattle.scalar_runs.specs.Laws.{IsRunOf, told_end}
use Rattle.scalar_runs.specs.Reports.{IsGiven, IsReportOf, ScalarReportsMeanTheirText}
use Rattle.scalar_runs.proofs.Runs.{scalar_runs}

-- an end whose answer has the status of a whole report is one of the code
ends_code : (turns : ℕ) (end : RunEnd) (answer : Answer) → Answers turns end answer → IsWhole (status_of answer) → is_of_code end ≡ true
ends_code turns E.Done answer answers whole = refl
ends_code turns (E.Fault kind place position) answer answers whole = refl
ends_code turns E.Stopped answer answers whole = refl
ends_code turns E.InputBroken answer answers whole = refl
ends_code turns E.OutputBroken answer (inl is) whole = absurd (not_six (subst (λ (a : Answer). IsWhole (status_of a)) is whole))
  where
    not_six : IsWhole 6 → ⊥
    not_six six = omega (arith, six)
ends_code turns E.Memory answer (inl is) whole = absurd (not_eight (subst (λ (a : Answer). IsWhole (status_of a)) is whole))
  where
    not_eight : IsWhole 8 → ⊥
    not_eight eight = omega (arith, eight)
ends_code turns E.OutputBroken answer (inr (is, stopped)) whole = cc
ends_code turns E.Memory answer (inr (is, stopped)) whole = cc

-- what a source that tells its bytes has left of them
rest_of : (held taken : List ℕ) (left : Option (List ℕ)) → Took (Some held) taken left → (rest : List ℕ) × (left ≡ Some rest) × (held ≡ taken ++ rest)
rest_of held taken None took = cc
rest_of held taken (Some rest) took = (rest, refl, cc)

-- the input of the code
abbrev input_of : List ℕ → Source.Rest → Rest
input_of bytes rest = record { bytes = bytes; mark = mark_of rest }

-- the input of a run that ended so and took these bytes
record HadInput (held : List ℕ) (left : Option (List ℕ)) (ended : Bool) (end : RunEnd) (taken : List ℕ) : Type 0 where
  pub given : List ℕ
  pub rest : Source.Rest
  pub are : AreBytes given
  pub later : Rest
  pub is_left : IsLeft ended (Some end) later
  pub input : input_of given rest ≡ before taken later
  pub so : (meant : End) → end ≡ told_end meant → IsGiven held left given rest meant

module _ (held : List ℕ) (left : Option (List ℕ)) (are : AreBytes held) (taken : List ℕ) (took : Took (Some held) taken left) (rest : List ℕ) (is : held ≡ taken ++ rest) where
  given_some : (meant : End) → E.InputBroken ≡ told_end meant → IsGiven held left taken Source.InputFails meant
  given_some Done told = cc
  given_some (EndsEarly (Source.Fault fault place position)) told = cc
  given_some (EndsEarly Source.Stopped) told = cc
  given_some (EndsEarly Source.InputBroken) told = (took, refl)

  given_all : (end : RunEnd) (meant : End) → input_broke end ≡ false → end ≡ told_end meant → IsGiven held left held Source.InputEnds meant
  given_all end Done still told = (refl, refl)
  given_all end (EndsEarly (Source.Fault fault place position)) still told = (refl, refl)
  given_all end (EndsEarly Source.Stopped) still told = (refl, refl)
  given_all end (EndsEarly Source.InputBroken) still told = let clash : true ≡ false = sym (ap input_broke told) ∙ still in cc

  -- the source failed behind the bytes that were taken
  had_some : (ended : Bool) → HadInput held left ended E.InputBroken taken
  had_some ended = record {
    given = taken;
    rest = Source.InputFails;
    are = subst AreBytes (ap (take (length taken)) is ∙ take-append_seam taken rest) (All-take (λ (byte : ℕ). byte < 2 ^ 8) (length taken) held are);
    later = input_of [] Source.InputFails;
    is_left = refl;
    input = ap (λ (bytes : List ℕ). input_of bytes Source.InputFails) (sym (append-nil taken));
    so = given_some;
  }

  -- the source did not fail
  had_all : (ended : Bool) (end : RunEnd) → input_broke end ≡ false → IsLeft ended (Some end) (input_of rest Source.InputEnds) → HadInput held left ended end taken
  had_all ended end still is_left = record {
    given = held;
    rest = Source.InputEnds;
    are = are;
    later = input_of rest Source.InputEnds;
    is_left = is_left;
    input = ap (λ (bytes : List ℕ). input_of bytes Source.InputEnds) is;
    so = λ meant told. given_all end meant still told;
  }

  over : rest ≡ [] → input_of rest Source.InputEnds ≡ input_of [] Source.InputEnds
  over none = ap (λ (bytes : List ℕ). input_of bytes Source.InputEnds) none

  had_input : (ended : Bool) (end : RunEnd) → (ended ≡ true → rest ≡ []) → is_of_code end ≡ true → HadInput held left ended end taken
  had_input ended E.InputBroken none code = had_some ended
  had_input ended E.OutputBroken none code = cc
  had_input ended E.Memory none code = cc
  had_input true E.Done none code = had_all true E.Done refl (over (none refl))
  had_input true (E.Fault kind place position) none code = had_all true (E.Fault kind place position) refl (over (none refl))
  had_input true E.Stopped none code = had_all true E.Stopped refl (over (none refl))
  had_input false E.Done none code = had_all false E.Done refl tt
  had_input false (E.Fault kind place position) none code = had_all false (E.Fault kind place position) refl tt
  had_input false E.Stopped none code = had_all false E.Stopped refl tt

closing_none : (end : RunEnd) → closing end [] ≡ []
closing_none E.Done = refl
closing_none (E.Fault kind place position) = refl
closing_none E.Stopped = refl
closing_none E.InputBroken = refl
closing_none E.OutputBroken = refl
closing_none E.Memory = refl

-- where neither the listing nor the final values are asked for, the report is what was printed
report_alone : (options : Options) (image : Image) (course : Course) → options.finals ≡ false → options.listing ≡ false → report options image course ≡ course.printed
unfolding closing_text
report_alone options image course finals listing =
    rw (finals, listing) (ap (λ (bytes : List ℕ). course.printed ++ bytes) (closing_none course.end) ∙ append-nil course.printed)

is_report : (run : Run) (options : Options) (image : Image) (answer : Answer) (course : Course) → IsRunOf run course → Answers options.turns course.end answer → IsReportOf run options image answer (report options image course)
is_report run options image answer course same answers =
    let behind : List ℕ = closing course.end (closing_text options image course.steps course.memory) in
    record {
      answered = subst (λ (end : RunEnd). Answers options.turns end answer) same.end answers;
      behind = behind;
      printed = ap (λ (bytes : List ℕ). where_asked options.listing (listing image) ++ (bytes ++ behind)) same.printed;
      alone = λ finals listed. report_alone options image course finals listed ∙ same.printed;
    }

-- the input on which the image went the course, and what is reported of that where it is the run of a meaning
pub record WentOn (image : Image) (options : Options) (held : List ℕ) (left : Option (List ℕ)) (course : Course) (answer : Answer) : Type 0 where
  pub given : List ℕ
  pub rest : Source.Rest
  pub are : AreBytes given
  pub on : RunsOn (new_start image options.winner) (input_of given rest) options.turns course
  pub so : (run : Run) → IsRunOf run course → IsGiven held left given rest run.end × IsReportOf run options image answer (report options image course)

pub went_on : (image : Image) (options : Options) (held : List ℕ) (left : Option (List ℕ)) (course : Course) (answer : Answer) → AreBytes held → IsCourse (new_start image options.winner) options.turns course → Feeds (new_start image options.winner) course (Some held) left → Answers options.turns course.end answer → IsWhole (status_of answer)
    → WentOn image options held left course answer
went_on image options held left course answer are goes feeds answers whole =
    let code : is_of_code course.end ≡ true = ends_code options.turns course.end answer answers whole in
    let behind = rest_of held course.taken left feeds.0 in
    let over : course.stopped.ended ≡ true → behind.0 ≡ [] = λ ended. subst (λ (o : Option (List ℕ)). IfSome o (λ rest. rest ≡ [])) behind.1 (feeds.1 refl ended) in
    let input : HadInput held left course.stopped.ended course.end course.taken = had_input held left are course.taken feeds.0 behind.0 behind.2 course.stopped.ended course.end over code in
    record {
      given = input.given;
      rest = input.rest;
      are = input.are;
      on = record { ran = goes; given = (input.later, input.is_left, input.input); whole = code };
      so = λ run same. (input.so run.end same.end, is_report run options image answer course same answers);
    }

pub scalar_reports : ScalarReportsMeanTheirText
scalar_reports text typed image short is none compiled options held left course answer are goes feeds answers whole =
    let input : WentOn image options held left course answer = went_on image options held left course answer are goes feeds answers whole in
    (input.given, (input.rest, input.so (meaning typed input.given input.rest options.turns options.winner) (scalar_runs text typed image short is none compiled options.winner input.given input.rest options.turns course input.are input.on)))
