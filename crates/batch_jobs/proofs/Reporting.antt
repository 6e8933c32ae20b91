-- What the command says to the file of a job.
use Rattle.std.proofs.Common.{◌≡◌, ◌≢◌, ◌<◌, ◌≤◌, ◌∙◌, ℕ, ◌+◌, ◌⊎◌, inl, inr, Bool, true, false, List, [], ◌++◌, Option, Some, length, take, ap, arith, length-take, refl, sym, subst, true≢false, lit<, lit≤, unwrap_or, Result, Ok, Err, IfOk}
use Rattle.std.proofs.lemmas.Bool.{cases_lt}
use Rattle.std.proofs.lemmas.List.{append-nil}
use Rattle.cstar_base.specs.declared.faults.Fault.{Fault}
use Rattle.cstar_base.specs.declared.faults.Fault.TheVariants as F
use Rattle.cstar_base.specs.declared.operators.Place.{Place}
use Rattle.cstar_base.specs.declared.operators.Winner.{Winner}
use Rattle.cstar_base.specs.declared.operators.Winner.TheVariants as W
use Rattle.cstar_base.specs.declared.memory.Memory.{Memory}
use Rattle.cstar_io.specs.Faults.{RisesBy}
use Rattle.cstar_io.specs.Output.{Takes, TakesNothing}
use Rattle.cstar_words.specs.declared.options.Mode.{Mode}
use Rattle.cstar_words.specs.declared.options.Mode.TheVariants as M
use Rattle.cstar_words.specs.declared.options.Options.{Options}
use Rattle.cstar_words.specs.Reading.{Reads, file_in, is_command, mode_in, rows_in}
use Rattle.job_board.specs.declared.report.Report.{Report}
use Rattle.paris_code.specs.declared.program.Image.{Image}
use Rattle.paris_code.specs.Listing.{listing}
use Rattle.paris_machine.specs.declared.outcome.End.{End}
use Rattle.paris_machine.specs.declared.outcome.End.TheVariants as E
use Rattle.cstar_top.specs.declared.answer.Answer.{Answer}
use Rattle.cstar_top.specs.declared.answer.Answer.TheVariants as A
use Rattle.cstar_top.specs.Answers.{line_of, status_of}
use Rattle.cstar_top.specs.Courses.{Answers, answer_to_end, closing, closing_text, report, where_asked}
use Rattle.cstar_top.specs.Modes.{AsksFor, limit_of, named, reads_file}
use Rattle.cstar_top.specs.Outcomes.{CanFollow}
use Rattle.cstar_top.specs.Refusals.{CanName, HoldsLong, RefusesLong}
use Rattle.cstar_top.specs.Reported.{AsksToRun, Begins, Holds, IsWhole, ReportsText, ReportsTextPart}
use Rattle.cstar_top.specs.Reports.{PutsAnswer, name_in, told_name}
use Rattle.point_runs.specs.Courses.{Course, Feeds, IsCourse}
use Rattle.point_runs.specs.Refusals.{file_start}
use Rattle.point_runs.specs.Starts.{Origin}
use Rattle.batch_jobs.specs.Answering.{IsRunOf, ReportsRefusal, ReportsRun, ReportsTooMuch, AnswersJob, has_ended, words_of_job}
use Rattle.batch_jobs.specs.Pages.{MayHave}
use Rattle.batch_jobs.proofs.Words.{IsPlain, file_of_job, is_job_command, mode_of_job, plain}

-- what an output in memory shows
pub record Held : Type 0 where
  pub faults : ℕ
  pub over : Bool
  pub bytes : List ℕ

abbrev pub may_have : ℕ → Held → List ℕ → Type 0
may_have limit held list = MayHave held.faults held.over limit held.bytes list

-- an output that was given nothing
pub record IsEmpty (held : Held) : Type 0 where
  pub faults : held.faults ≡ 0
  pub within : held.over ≡ false
  pub none : held.bytes ≡ []

started : (limit : ℕ) (held : Held) → IsEmpty held → may_have limit held []
started limit held empty = (λ _. sym empty.none, λ past. absurd (true≢false (sym past ∙ empty.within)))

-- what it took is what it holds, where no put failed
took : (limit : ℕ) (old new : Held) (bytes : List ℕ) → IsEmpty old → new.faults ≡ 0 → Takes (may_have limit) old new bytes → new.bytes ≡ bytes
took limit old new bytes empty none takes = sym ((takes [] (started limit old empty)).0 none)

closing_none : (end : End) → closing end [] ≡ []
closing_none E.Done = refl
closing_none (E.Fault kind place position) = refl
closing_none E.Stopped = refl
closing_none E.InputBroken = refl
closing_none E.OutputBroken = refl
closing_none E.Memory = refl

-- where nothing else is asked for, the report of a run is what it printed
report_is : (options : Options) (image : Image) (course : Course) → options.finals ≡ false → options.listing ≡ false → report options image course ≡ course.printed
unfolding closing_text
report_is options image course finals listing =
    rw (finals, listing) (ap (λ (xs : List ℕ). course.printed ++ xs) (closing_none course.end) ∙ append-nil course.printed)

-- the statuses that are left
pub kinds : (s : ℕ) → s ≤ 9 → s ≢ 2 → s ≢ 5 → s ≢ 6 → s ≢ 7 → s ≢ 8 → s ≢ 9 → (s ≡ 3) ⊎ IsWhole s
kinds s most two five six seven eight nine = elim (cases_lt 3 s) [
  | inl above ↦ inr (inr (inr (inl (omega arith))))
  | inr below ↦ elim (cases_lt 2 s) [
    | inl three ↦ inl (omega arith)
    | inr less ↦ elim (cases_lt 0 s) [
      | inl one ↦ inr (inr (inl (omega arith)))
      | inr zero ↦ inr (inl (omega arith))
    ]
  ]
]

-- an end with one of the statuses of a run
ended : (turns : ℕ) (end : End) (s : ℕ) → status_of (answer_to_end turns end) ≡ s → s ≢ 6 → s ≢ 7 → s ≢ 8 → has_ended end ≡ true
ended turns E.Done s is six seven eight = refl
ended turns (E.Fault kind place position) s is six seven eight = refl
ended turns E.Stopped s is six seven eight = refl
ended turns E.InputBroken s is six seven eight = absurd (seven (sym is))
ended turns E.OutputBroken s is six seven eight = absurd (six (sym is))
ended turns E.Memory s is six seven eight = absurd (eight (sym is))

asks_to_run : (name : List ℕ) → AsksToRun (words_of_job name)
asks_to_run name = (M.Run, mode_of_job name, refl)

-- the answer to an end tells the name of the file
told_end : (options : Options) (turns : ℕ) (end : End) → told_name options (answer_to_end turns end) ≡ options.file.now
told_end options turns E.Done = refl
told_end options turns (E.Fault kind place position) = refl
told_end options turns E.Stopped = refl
told_end options turns E.InputBroken = refl
told_end options turns E.OutputBroken = refl
told_end options turns E.Memory = refl

-- an answer that is not that the run cannot be saved is that to the end
ends_so : (turns : ℕ) (end : End) (answer : Answer) → status_of answer ≢ 9 → Answers turns end answer → answer ≡ answer_to_end turns end
ends_so turns end answer other (inl is) = is
ends_so turns end answer other (inr said) = absurd (other (ap status_of said.0))

name_is : (name : List ℕ) → named (words_of_job name) ≡ name
name_is name = ap (λ (o : Option (List ℕ)). unwrap_or o []) (file_of_job name)

-- the file of a job
abbrev pub tells : List ℕ → Bool
tells file = true

abbrev pub held_under : List ℕ → List ℕ → Option (List ℕ)
held_under file name = Some file

same : {A : Type 0} (x y : A) → Some x ≡ Some y → x ≡ y
same x y is = ap (λ (o : Option _). unwrap_or o x) is

-- an image of the file and a course of it, as the command tells them, are a run of the job
run_of : (name file text : List ℕ) (options : Options) (from : Origin) (course : Course) (left rest : Option (List ℕ)) → IsPlain name options → file ≡ text → left ≡ Some []
    → Begins options.mode options.winner text from → IsCourse from options.turns course → Feeds from course left rest → IsRunOf file from course
run_of name file text options from course left rest is here none of_text goes feeds = (
  subst (λ (xs : List ℕ). Begins M.Run W.High xs from) (sym here) (subst (λ (winner : Winner). Begins M.Run winner text from) is.winner (subst (λ (mode : Mode). Begins mode options.winner text from) is.mode of_text)),
  subst (λ (turns : ℕ). IsCourse from turns course) is.turns goes,
  (rest, subst (λ (xs : Option (List ℕ)). Feeds from course xs rest) none feeds),
)

-- what the command says of a run that came to an end, and of the output of any
abbrev pub WholeOf : List (List ℕ) → ℕ → ℕ → Held → Held → Held → Held → Option (List ℕ) → Option (List ℕ) → List ℕ → (Options → List ℕ → Origin → Course → Type 0) → Type 0
WholeOf words status err_limit out out' err err' left rest file More =
    AsksToRun words → IsWhole status
    → (options : Options) × Reads (rows_in words) options × ((text : List ℕ) × Holds tells held_under file options.file.now text
    × ((answer : Answer) × (status_of answer ≡ status) × Takes (may_have err_limit) err err' (line_of (told_name options answer) answer)
    × ReportsText (may_have 1048576) out out' left rest options text answer (More options text)))

abbrev pub PartOf : List (List ℕ) → Held → Held → Option (List ℕ) → Option (List ℕ) → List ℕ → Type 0
PartOf words out out' left rest file =
    AsksToRun words → TakesNothing (may_have 1048576) out out'
    ⊎ ((options : Options) × Reads (rows_in words) options × ((text : List ℕ) × Holds tells held_under file options.file.now text
    × ReportsTextPart (may_have 1048576) out out' left rest options text))

-- what it says to a text that is too long
abbrev pub LongOf : List (List ℕ) → ℕ → ℕ → Held → Held → List ℕ → Type 0
LongOf words status err_limit err err' file =
    is_command words ≡ true → (mode : Mode) → AsksFor mode words → reads_file mode ≡ true → HoldsLong tells held_under file (limit_of mode) (named words)
    → RefusesLong (may_have err_limit) err err' (named words) status

-- a run that came to an end
pub run_told : (name file : List ℕ) (words : List (List ℕ)) (status err_limit : ℕ) (out out' err err' : Held) (left rest : Option (List ℕ)) (More : Options → List ℕ → Origin → Course → Type 0) → words ≡ words_of_job name → left ≡ Some [] → IsWhole status → status ≢ 7 → status ≢ 9
    → IsEmpty out → IsEmpty err → out'.faults ≡ 0 → err'.faults ≡ 0 → length out'.bytes ≤ 1048576
    → WholeOf words status err_limit out out' err err' left rest file More → ReportsRun name file (record { status = status; out = out'.bytes; err = err'.bytes })
run_told name file words status err_limit out out' err err' left rest More asked none whole seven nine empty silent out_whole err_whole within reported =
    let told = reported (subst AsksToRun (sym asked) (asks_to_run name)) whole in
    let options = told.0 in
    let is = plain name options (subst (λ (ws : List (List ℕ)). Reads (rows_in ws) options) asked told.1) in
    let text = told.2.0 in
    let here = same file text (told.2.1 refl) in
    let answer = told.2.2.0 in
    let from = told.2.2.3.0 in
    let of_text = told.2.2.3.1 in
    let ran = told.2.2.3.2 in
    let course = ran.0 in
    let ending : answer ≡ answer_to_end 1000000 course.end = ends_so options.turns course.end answer (λ is_nine. nine (sym told.2.2.1 ∙ is_nine)) ran.3 ∙ ap (λ (turns : ℕ). answer_to_end turns course.end) is.turns in
    let status_is : status ≡ status_of (answer_to_end 1000000 course.end) = sym told.2.2.1 ∙ ap status_of ending in
    let line = took err_limit err err' (line_of (told_name options answer) answer) silent err_whole told.2.2.2 in
    let named_is = ap (told_name options) ending ∙ told_end options 1000000 course.end ∙ is.file in
    let printed = took 1048576 out out' (report options from.image course) empty out_whole ran.4 ∙ report_is options from.image course is.finals is.listing in (
      from,
      (
        course,
        run_of name file text options from course left rest is here none of_text ran.1 ran.2,
        ended 1000000 course.end status (sym status_is) (λ six. not_six status whole six) seven (λ eight. not_eight status whole eight),
        (status_is, line ∙ ap (λ (xs : List ℕ). line_of xs answer) named_is ∙ ap (λ (a : Answer). line_of name a) ending),
        printed,
        subst (λ (xs : List ℕ). length xs ≤ 1048576) printed within,
      ),
    )
  where
    not_six : (s : ℕ) → IsWhole s → s ≡ 6 → ⊥
    not_six s (inl is) six = omega arith
    not_six s (inr (inl is)) six = omega arith
    not_six s (inr (inr (inl is))) six = omega arith
    not_six s (inr (inr (inr (inl is)))) six = omega arith
    not_six s (inr (inr (inr (inr is)))) six = omega arith

    not_eight : (s : ℕ) → IsWhole s → s ≡ 8 → ⊥
    not_eight s (inl is) eight = omega arith
    not_eight s (inr (inl is)) eight = omega arith
    not_eight s (inr (inr (inl is))) eight = omega arith
    not_eight s (inr (inr (inr (inl is)))) eight = omega arith
    not_eight s (inr (inr (inr (inr is)))) eight = omega arith

-- a refusal, and what the words can be refused for
refusal_is : (name : List ℕ) (answer : Answer) → status_of answer ≡ 3 → CanFollow (words_of_job name) answer
    → (fault : Fault) × ((place : Place) × (answer ≡ A.Refused fault place) × CanName M.Run fault)
refusal_is name (A.Refused fault place) is can =
    let mode = same _ _ (sym can.1.1 ∙ mode_of_job name) in
    (fault, (place, refl, subst (λ (m : Mode). CanName m fault) mode can.1.2))
refusal_is name A.Done is can = absurd (omega arith)
refusal_is name (A.Fault fault place position) is can = absurd (omega arith)
refusal_is name A.Usage is can = absurd (omega arith)
refusal_is name (A.Stopped turns) is can = absurd (omega arith)
refusal_is name A.CannotRead is can = absurd (omega arith)
refusal_is name A.WriteFault is can = absurd (omega arith)
refusal_is name A.InputFault is can = absurd (omega arith)
refusal_is name A.Memory is can = absurd (omega arith)
refusal_is name A.CannotSave is can = absurd (omega arith)

-- a file that is refused
pub refusal_told : (name file : List ℕ) (words : List (List ℕ)) (status err_limit : ℕ) (out err err' : Held) → words ≡ words_of_job name → status ≡ 3 → IsEmpty out → IsEmpty err → err'.faults ≡ 0
    → PutsAnswer (may_have err_limit) err err' words status
    → LongOf words status err_limit err err' file → ReportsRefusal name file (record { status = status; out = out.bytes; err = err'.bytes })
refusal_told name file words status err_limit out err err' asked three empty silent whole told long = elim (cases_lt 1048576 (length file)) [
  | inl more ↦ elim (long (ap is_command asked ∙ is_job_command name) M.Run (subst (λ (ws : List (List ℕ)). AsksFor M.Run ws) (sym asked) (mode_of_job name)) refl (refl, (file, refl, more))) [
    | inl refused ↦ (
      F.TooLong,
      (
        file_start,
        inr (lit≤ tt, lit≤ tt),
        (λ _. (refl, refl)),
        (three, took err_limit err err' _ silent whole refused.1 ∙ ap (λ (xs : List ℕ). line_of xs (A.Refused F.TooLong file_start)) (ap named asked ∙ name_is name)),
        empty.none,
      ),
    )
    | inr (inl five) ↦ absurd (omega arith)
    | inr (inr (inl six)) ↦ absurd (omega arith)
    | inr (inr (inr eight)) ↦ absurd (omega arith)
  ]
  | inr short ↦ let refused = refusal_is name told.0 (told.2 ∙ three) (subst (λ (ws : List (List ℕ)). CanFollow ws told.0) asked told.1) in (
    refused.0,
    (
      refused.1.0,
      refused.1.2,
      (λ more. absurd (omega arith)),
      (three, took err_limit err err' _ silent whole told.3 ∙ ap (λ (a : Answer). line_of (name_in words a) a) refused.1.1 ∙ ap (λ (xs : List ℕ). line_of xs (A.Refused refused.0 refused.1.0)) (ap named asked ∙ name_is name)),
      empty.none,
    ),
  )
]

-- a run that printed too much
pub too_much_told : (name file : List ℕ) (words : List (List ℕ)) (out out' : Held) (left rest : Option (List ℕ)) (told : Report) → words ≡ words_of_job name → left ≡ Some [] → IsEmpty out → out'.over ≡ true
    → (told.status ≡ 10) × (told.out ≡ []) × (told.err ≡ [])
    → PartOf words out out' left rest file → ReportsTooMuch file told
too_much_told name file words out out' left rest told asked none empty over own part =
    go (part (subst AsksToRun (sym asked) (asks_to_run name)))
  where
    start : may_have 1048576 out []
    start = started 1048576 out empty

    go : TakesNothing (may_have 1048576) out out'
        ⊎ ((options : Options) × Reads (rows_in words) options × ((text : List ℕ) × Holds tells held_under file options.file.now text
        × ReportsTextPart (may_have 1048576) out out' left rest options text))
        → ReportsTooMuch file told
    go (inl nothing) = absurd (omega (arith, (nothing [] start).1 over))
    go (inr (options, reads, (text, holds, (from, of_text, inl (count, first))))) =
        let is = plain name options (subst (λ (ws : List (List ℕ)). Reads (rows_in ws) options) asked reads) in
        let more : 1048576 < length (take count (where_asked options.listing (listing from.image))) = (first [] start).1 over in
        let less : 1048576 < length (take count (where_asked false (listing from.image))) = subst (λ (b : Bool). 1048576 < length (take count (where_asked b (listing from.image)))) is.listing more in
        absurd (omega (arith, less, length-take count (where_asked false (listing from.image))))
    go (inr (options, reads, (text, holds, (from, of_text, inr (course, goes, feeds, (count, first)))))) =
        let is = plain name options (subst (λ (ws : List (List ℕ)). Reads (rows_in ws) options) asked reads) in
        let more : 1048576 < length (take count (report options from.image course)) = (first [] start).1 over in
        let printed : length (report options from.image course) ≡ length course.printed = ap length (report_is options from.image course is.finals is.listing) in (
          from,
          (
            course,
            run_of name file text options from course left rest is (same file text (holds refl)) none of_text goes feeds,
            omega (arith, more, printed, length-take count (report options from.image course)),
            own.0,
            own.1,
            own.2,
          ),
        )

-- no call on a file or an input in memory fails
pub never_rises : RisesBy 0 0 → ⊥
never_rises rises = absurd (omega (arith, rises.1 (lit< tt)))

-- the report of a file whose output failed, where there is one
pub over_told : (name file : List ℕ) (words : List (List ℕ)) (out out' : Held) (left rest : Option (List ℕ)) (told : Result Report Memory) → words ≡ words_of_job name → left ≡ Some [] → IsEmpty out
    → IfOk told (λ report. out'.over ≡ true) → IfOk told (λ report. (report.status ≡ 10) × (report.out ≡ []) × (report.err ≡ []))
    → PartOf words out out' left rest file → IfOk told (λ report. AnswersJob name file report)
over_told name file words out out' left rest (Ok report) asked none empty over own part =
    inr (inr (too_much_told name file words out out' left rest report asked none empty over own part))
over_told name file words out out' left rest (Err memory) asked none empty over own part = tt
