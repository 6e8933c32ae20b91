-- Points of runs that stopped.
use Rattle.std.proofs.Common.{◌≡◌, ◌≢◌, ◌∙◌, ℕ, Bool, true, List, Option, Some, None, ◌⊎◌, inl, inr, ap, sym, refl, arith, true≢false}
use Rattle.std.specs.Prelude.{IfSome, is_some, option_map}
use Rattle.checkpoint.specs.declared.point.Point.{Point}
use Rattle.checkpoint.specs.Bytes.{IsHeld}
use Rattle.block_store.specs.declared.set.BlockSet.{BlockSet}
use Rattle.block_store.specs.Stored.{stored}
use Rattle.cstar_base.specs.declared.operators.Winner.{Winner}
use Rattle.front_end.specs.declared.kept.Kept.{Kept}
use Rattle.paris_code.specs.Memory.{BitMemory}
use Rattle.paris_machine.specs.declared.outcome.End.{End}
use Rattle.paris_machine.specs.declared.outcome.End.TheVariants as E
use Rattle.point_runs.specs.Courses.{Course}
use Rattle.point_runs.specs.Points.{point_with}
use Rattle.point_runs.specs.Starts.{Origin}
use Rattle.cstar_top.specs.declared.answer.Answer.{Answer}
use Rattle.cstar_top.specs.declared.answer.Answer.TheVariants as A
use Rattle.cstar_top.specs.Answers.{status_of}
use Rattle.cstar_words.specs.declared.options.Options.{Options}
use Rattle.cstar_top.specs.Courses.{Answers, Reports, answer_to_end}
use Rattle.cstar_top.specs.Saved.{ComesWith, HoldsPoint, OthersStay, SavesOne, save_name}

-- an answer that is not want of memory is the one before
pub same_answer : (r answer : Answer) → status_of r ≢ 8 → (r ≡ answer) ⊎ ((status_of answer ≡ 4) × (r ≡ A.Memory)) → r ≡ answer
same_answer r answer more (inl same) = same
same_answer r answer more (inr memory) = absurd (more (ap status_of memory.1))

-- the end that is answered by 4
stopped_is : (turns : ℕ) (end : End) → status_of (answer_to_end turns end) ≡ 4 → end ≡ E.Stopped
stopped_is turns E.Done four = absurd (omega arith)
stopped_is turns (E.Fault kind place position) four = absurd (omega arith)
stopped_is turns E.Stopped four = refl
stopped_is turns E.InputBroken four = absurd (omega arith)
stopped_is turns E.OutputBroken four = absurd (omega arith)
stopped_is turns E.Memory four = absurd (omega arith)

-- a run comes with the point at which it stopped, where it did and that is asked for
pub comes_with : (asked : Bool) (from : Origin) (course : Course) (point : Option Point) (turns : ℕ) (r answer : Answer) (winner : Winner) → from.memory.winner ≡ winner → answer ≡ answer_to_end turns course.end → r ≡ answer
    → IfSome point (λ p. IsHeld p × (status_of answer ≡ 4) × (r ≡ answer) × (p ≡ point_with from.image course.stopped winner course.memory))
    → (r ≡ answer → status_of answer ≡ 4 → asked ≡ true → is_some point ≡ true) → ComesWith asked from point course
comes_with asked from course None turns r answer winner chosen own is made none = λ wants stopped.
    absurd (true≢false (sym (none is (ap status_of own ∙ ap (λ (e : End). status_of (answer_to_end turns e)) stopped) wants)))
comes_with asked from course (Some point) turns r answer winner chosen own is made none = (
  stopped_is turns course.end (sym (ap status_of own) ∙ made.1),
  made.3 ∙ ap (λ (w : Winner). point_with from.image course.stopped w course.memory) (sym chosen),
)

-- the point that was made of sets with these bits is the one of the memory
made_of : (from : Origin) (kept : Kept) (memory : BitMemory) (course : Course) (point : Option Point) (four same : Type 0) (winner w : Winner) (sets : List BlockSet) → stored sets w ≡ memory → course.stopped ≡ kept → course.memory ≡ memory
    → IfSome point (λ p. IsHeld p × four × same × ((v : Winner) → p ≡ point_with from.image kept winner (stored sets v)))
    → IfSome point (λ p. IsHeld p × four × same × (p ≡ point_with from.image course.stopped winner course.memory))
made_of from kept memory course None four same winner w sets is stopped bits made = tt
made_of from kept memory course (Some point) four same winner w sets is stopped bits made = (
  made.0,
  made.1,
  made.2,
  made.3 w ∙ ap (λ (m : BitMemory). point_with from.image kept winner m) (is ∙ sym bits)
      ∙ ap (λ (k : Kept). point_with from.image k winner course.memory) (sym stopped),
)

-- a run comes with the point that was made of its sets
pub comes_of_sets : (asked : Bool) (from : Origin) (kept : Kept) (memory : BitMemory) (point : Option Point) (turns : ℕ) (r answer : Answer) (winner w : Winner) (sets : List BlockSet) → from.memory.winner ≡ winner → r ≡ answer → status_of answer ≢ 9 → stored sets w ≡ memory
    → IfSome point (λ p. IsHeld p × (status_of answer ≡ 4) × (r ≡ answer) × ((v : Winner) → p ≡ point_with from.image kept winner (stored sets v)))
    → (r ≡ answer → status_of answer ≡ 4 → asked ≡ true → is_some point ≡ true)
    → (course : Course) → Answers turns course.end answer → (course.stopped ≡ kept) × (course.memory ≡ memory) → Answers turns course.end r × ComesWith asked from point course
comes_of_sets asked from kept memory point turns r answer winner w sets chosen is nine bits made none course (inl own) left =
    (inl (is ∙ own), comes_with asked from course point turns r answer winner chosen own is (made_of from kept memory course point (status_of answer ≡ 4) (r ≡ answer) winner w sets bits left.0 left.1 made) none)
comes_of_sets asked from kept memory point turns r answer winner w sets chosen is nine bits made none course (inr said) left =
    absurd (nine (ap status_of said.0))

-- its answer is that of a run that stopped
pub point_saved : (point : Option Point) (r answer : Answer) (Made : Point → Type 0) → IfSome point (λ p. IsHeld p × (status_of answer ≡ 4) × (r ≡ answer) × Made p) → IfSome point (λ p. IsHeld p × (status_of r ≡ 4))
point_saved None r answer Made made = tt
point_saved (Some p) r answer Made made = (made.0, ap status_of made.2 ∙ made.1)

-- the same of a run from the same bits
pub comes_elsewhere : (asked : Bool) (from : Origin) (m : BitMemory) (point : Option Point) (course : Course) → from.memory.winner ≡ m.winner → ComesWith asked from point course → ComesWith asked (record { image = from.image; kept = from.kept; memory = m }) point course
comes_elsewhere asked from m None course same comes = comes
comes_elsewhere asked from m (Some point) course same comes =
    (comes.0, comes.1 ∙ ap (λ (w : Winner). point_with from.image course.stopped w course.memory) same)

-- an end with the status 4
pub stopped_of : (turns : ℕ) (end : End) (answer : Answer) → Answers turns end answer → status_of answer ≡ 4 → end ≡ E.Stopped
stopped_of turns end answer (inl is) four = stopped_is turns end (sym (ap status_of is) ∙ four)
stopped_of turns end answer (inr said) four = said.1

asked_for : {A : Type 0} (f : A → List ℕ) (o : Option A) (name : List ℕ) → option_map f o ≡ Some name → is_some o ≡ true
asked_for f None name is = cc
asked_for f (Some x) name is = refl

same_name : (one other : List ℕ) → Some one ≡ Some other → one ≡ other
same_name one other is = cc

-- a run that came without a point has none to be held
pub none_held : {S : Type 0} (tells : S → Bool) (file : S → List ℕ → Option (List ℕ)) (old new : S) (options : Options) (answer : Answer) (from : Origin) (course : Course) → Answers options.turns course.end answer → ComesWith (is_some options.save) from None course → HoldsPoint tells file old new options (status_of answer) from course
none_held tells file old new options answer from course said comes = λ four name is.
    absurd (comes (asked_for (λ word. word.now) options.save name is) (stopped_of options.turns course.end answer said four))

-- a report, told of another answer to the same end
pub reports_as : {O : Type 0} (agrees : O → List ℕ → Type 0) (s t : O) (left rest : Option (List ℕ)) (options : Options) (from : Origin) (answer told : Answer) (More Other : Course → Type 0) → ((course : Course) → Answers options.turns course.end answer → More course → Answers options.turns course.end told × Other course)
    → Reports agrees s t left rest options from answer More → Reports agrees s t left rest options from told Other
reports_as agrees s t left rest options from answer told More Other change said =
    let changed = change said.0 said.3 said.5 in
    (said.0, said.1, said.2, changed.0, said.4, changed.1)

-- a run that came with its point stopped, and may be saved
pub saves_one : {S O : Type 0} (file : S → List ℕ → Option (List ℕ)) (old new : S) (agrees : O → List ℕ → Type 0) (s t : O) (left rest : Option (List ℕ)) (options : Options) (from : Origin) (answer : Answer) (point : Point) (name : List ℕ) → save_name options ≡ Some name → OthersStay file old new name
    → Reports agrees s t left rest options from answer (ComesWith (is_some options.save) from (Some point)) → SavesOne file old new left rest options from
saves_one file old new agrees s t left rest options from answer point name named others said =
    (name, named, others, (said.0, said.1, said.2, said.5.0))

-- where the point was found
pub saves_from : {S O : Type 0} (file : S → List ℕ → Option (List ℕ)) (old new : S) (agrees : O → List ℕ → Type 0) (s t : O) (left rest : Option (List ℕ)) (options : Options) (from : Origin) (answer : Answer) (found : Option Point) (point : Point) (name : List ℕ) → found ≡ Some point → save_name options ≡ Some name → OthersStay file old new name
    → IfSome found (λ p. IsHeld p × (status_of answer ≡ 4)) → (status_of answer ≢ 6 → status_of answer ≢ 8 → Reports agrees s t left rest options from answer (ComesWith (is_some options.save) from found)) → SavesOne file old new left rest options from
saves_from file old new agrees s t left rest options from answer None point name is named others saved said = cc
saves_from file old new agrees s t left rest options from answer (Some p) point name is named others saved said =
    saves_one file old new agrees s t left rest options from answer p name named others (said (λ six. omega (arith, saved.1)) (λ eight. omega (arith, saved.1)))
