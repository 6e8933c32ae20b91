-- Which answers come of which modes and words, and what was told of them.
use Rattle.std.proofs.Common.{◌≡◌, ◌≢◌, ℕ, true, List, ◌⊎◌, Result, Ok, Err, IfErr, inl, inr, sym, subst, codes, refl, arith, lit≤}
use Rattle.cstar_base.specs.declared.faults.Fault.{Fault}
use Rattle.cstar_base.specs.declared.faults.Fault.TheVariants as F
use Rattle.cstar_base.specs.declared.operators.Place.{Place}
use Rattle.cstar_io.specs.Output.{Takes, TakesPrefix}
use Rattle.cstar_words.specs.declared.options.Mode.{Mode}
use Rattle.cstar_words.specs.declared.options.Mode.TheVariants as M
use Rattle.cstar_words.specs.Reading.{is_command}
use Rattle.cstar_top.specs.declared.answer.Answer.{Answer}
use Rattle.cstar_top.specs.declared.answer.Answer.TheVariants as A
use Rattle.cstar_top.specs.Answers.{line_of, status_of}
use Rattle.cstar_top.specs.Modes.{AsksFor, budget_in, named, runs_code, runs_image}
use Rattle.cstar_top.specs.Outcomes.{CanAnswer, CanFollow}
use Rattle.cstar_top.specs.Refusals.{AnswersWhy, CanName, NamesOnly, RefusesRun, answer_to_none}
use Rattle.cstar_top.specs.Reports.{PutsAnswer, PutsPartOfAnswer, name_in}
use Rattle.cstar_top.specs.Runs.{IsEndOfRun}
use Rattle.point_runs.specs.declared.refusal.NoImage.{NoImage}
use Rattle.point_runs.specs.declared.refusal.NoImage.TheVariants as N
use Rattle.point_runs.specs.Assembled.{RefusesListing}
use Rattle.point_runs.specs.Points.{RefusesPoint}
use Rattle.point_runs.specs.Refusals.{TellsWhy}
use Rattle.point_runs.proofs.Refusing.{rule_range}
use Rattle.cstar_top.proofs.Lines.{memory_line}

runs : (mode : Mode) → runs_image mode ≡ true → runs_code mode ≡ true
runs M.Drill image = refl
runs M.Run image = refl
runs M.Asm image = refl
runs M.Resume image = refl
runs _ image = cc

-- a mode that runs an image can give the answer of a run
pub can_run : (mode : Mode) (turns : ℕ) (answer : Answer) → runs_image mode ≡ true → IsEndOfRun turns answer → CanAnswer mode turns answer
can_run mode turns A.Done image end = tt
can_run mode turns (A.Fault fault place position) image end = runs mode image
can_run mode turns A.Usage image end = absurd end
can_run mode turns (A.Refused fault place) image end = absurd end
can_run mode turns (A.Stopped spent) image end = (runs mode image, end)
can_run mode turns A.CannotRead image end = absurd end
can_run mode turns A.WriteFault image end = tt
can_run mode turns A.InputFault image end = image
can_run mode turns A.Memory image end = tt
can_run mode turns A.CannotSave image end = image

-- a refusal that names one of some faults names one of more
pub names_more : (P Q : Fault → Type 0) (none : NoImage) → ((fault : Fault) → P fault → Q fault) → NamesOnly P none → NamesOnly Q none
names_more P Q (N.Refused fault place) more names = more fault names
names_more P Q N.Memory more names = tt

pub names_more_in : {A : Type 0} (P Q : Fault → Type 0) (r : Result A NoImage) → ((fault : Fault) → P fault → Q fault) → IfErr r (NamesOnly P) → IfErr r (NamesOnly Q)
names_more_in P Q (Ok x) more names = tt
names_more_in P Q (Err none) more names = names_more P Q none more names

-- the answer of a run refuses nothing
pub run_answers : (Why : Fault → Place → Type 0) (turns : ℕ) (answer : Answer) → IsEndOfRun turns answer → AnswersWhy Why answer
run_answers Why turns (A.Refused fault place) end = absurd end
run_answers Why turns _ end = tt

-- a refusal that was told says why
pub refusal_told : {E : Type 0} (agrees : E → List ℕ → Type 0) (s t : E) (file : List ℕ) (Why : Fault → Place → Type 0) (answer : Answer) → status_of answer ≡ 3 → AnswersWhy Why answer → Takes agrees s t (line_of file answer) → (fault : Fault) × ((place : Place) × Why fault place × Takes agrees s t (line_of file (A.Refused fault place)))
refusal_told agrees s t file Why (A.Refused fault place) three why told = (fault, (place, why, told))
refusal_told agrees s t file Why _ three why told = absurd (omega arith)

-- no mode answers that the words are no command
pub no_usage : (mode : Mode) (turns : ℕ) (answer : Answer) → CanAnswer mode turns answer → status_of answer ≢ 2
no_usage mode turns A.Usage can two = can
no_usage mode turns _ can two = absurd (omega arith)

-- what a mode can answer, the words that ask for it can come to
pub can_follow : (words : List (List ℕ)) (mode : Mode) (turns : ℕ) (answer : Answer) → is_command words ≡ true → AsksFor mode words → budget_in mode words ≡ turns → CanAnswer mode turns answer → CanFollow words answer
can_follow words mode turns A.Usage command asks same can = absurd can
can_follow words mode turns A.Memory command asks same can = tt
can_follow words mode turns answer command asks same can =
    (command, (mode, asks, subst (λ (n : ℕ). CanAnswer mode n answer) (sym same) can))

-- a status that is none of 6 and 8 is the answer's
pub told_is : (r s : ℕ) → r ≢ 6 → r ≢ 8 → (r ≡ s) ⊎ ((r ≡ 6) ⊎ (r ≡ 8)) → r ≡ s
told_is r s six eight (inl same) = same
told_is r s six eight (inr (inl is)) = absurd (six is)
told_is r s six eight (inr (inr is)) = absurd (eight is)

-- want of memory, told
memory_told : {E : Type 0} (agrees : E → List ℕ → Type 0) (s t : E) (words : List (List ℕ)) (r : ℕ) → r ≡ 8 → Takes agrees s t (codes "out of memory\n") → PutsAnswer agrees s t words r
memory_told agrees s t words r eight told =
    (A.Memory, tt, sym eight, subst (λ (xs : List ℕ). Takes agrees s t xs) (sym (memory_line (named words) A.Memory refl)) told)

-- an answer, told: its line, or that of want of memory
pub answer_told : {E : Type 0} (agrees : E → List ℕ → Type 0) (s t : E) (words : List (List ℕ)) (name : List ℕ) (r : ℕ) (answer : Answer) → CanFollow words answer → name ≡ name_in words answer → (r ≡ status_of answer) ⊎ ((r ≡ 6) ⊎ (r ≡ 8)) → (r ≡ status_of answer → r ≢ 6 → r ≢ 8 → Takes agrees s t (line_of name answer)) → (r ≡ 8 → Takes agrees s t (codes "out of memory\n")) → r ≢ 6 → PutsAnswer agrees s t words r
answer_told agrees s t words name r answer can is (inr (inl six)) own memory other = absurd (other six)
answer_told agrees s t words name r answer can is (inr (inr eight)) own memory other = memory_told agrees s t words r eight (memory eight)
answer_told agrees s t words name r A.Memory can is (inl same) own memory other = memory_told agrees s t words r same (memory same)
answer_told agrees s t words name r answer can is (inl same) own memory other =
    (answer, can, sym same, subst (λ (xs : List ℕ). Takes agrees s t (line_of xs answer)) is (own same other (λ eight. omega arith)))

-- a part of its line, or of that of want of memory
pub part_told : {E : Type 0} (agrees : E → List ℕ → Type 0) (s t : E) (words : List (List ℕ)) (name : List ℕ) (answer : Answer) → CanFollow words answer → name ≡ name_in words answer → TakesPrefix agrees s t (line_of name answer) ⊎ TakesPrefix agrees s t (codes "out of memory\n") → PutsPartOfAnswer agrees s t words
part_told agrees s t words name answer can is (inl part) = (answer, can, subst (λ (xs : List ℕ). TakesPrefix agrees s t (line_of xs answer)) is part)
part_told agrees s t words name answer can is (inr part) =
    (A.Memory, tt, subst (λ (xs : List ℕ). TakesPrefix agrees s t xs) (sym (memory_line (named words) A.Memory refl)) part)

-- what refuses a file whose image is to be run is a fault of its mode
listing_named : (text : List ℕ) (fault : Fault) (place : Place) → RefusesListing text fault place → CanName M.Asm fault
listing_named text F.TooLong place why = inl refl
listing_named text F.Listing place why = inr (lit≤ tt, lit≤ tt)
listing_named text F.CodeSpace place why = inr (lit≤ tt, lit≤ tt)
listing_named text F.Slots place why = inr (lit≤ tt, lit≤ tt)
listing_named text _ place why = inr (omega (arith, why.3.1.1), omega (arith, why.3.1.1, (rule_range why.3.0).1))

point_named : (text : List ℕ) (fault : Fault) (place : Place) → RefusesPoint text fault place → CanName M.Resume fault
point_named text F.TooLong place why = inl refl
point_named text F.Point place why = inr (lit≤ tt)
point_named text F.State place why = inr (lit≤ tt)
point_named text F.Listing place why = inr (lit≤ tt)
point_named text F.CodeSpace place why = inr (lit≤ tt)
point_named text _ place why = inr (omega (arith, why.2.3.1.1))

run_named : (mode : Mode) (text : List ℕ) (fault : Fault) (place : Place) → RefusesRun mode text fault place → CanName mode fault
run_named M.Asm text fault place why = listing_named text fault place why
run_named M.Resume text fault place why = point_named text fault place why
run_named _ text fault place why = why

-- so the answer is one that the mode can give
pub run_refused : (mode : Mode) (turns : ℕ) (text : List ℕ) (none : NoImage) → TellsWhy (RefusesRun mode text) none → CanAnswer mode turns (answer_to_none none)
run_refused mode turns text (N.Refused fault place) why = run_named mode text fault place why
run_refused mode turns text N.Memory why = tt

-- and says why
pub refusal_why : (Why : Fault → Place → Type 0) (none : NoImage) → TellsWhy Why none → AnswersWhy Why (answer_to_none none)
refusal_why Why (N.Refused fault place) why = why
refusal_why Why N.Memory why = tt
