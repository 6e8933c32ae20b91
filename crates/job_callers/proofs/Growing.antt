-- What one more section adds to a batch.
use Rattle.std.proofs.Common.{◌≡◌, ℕ, zero, suc, ◌+◌, ◌<◌, List, [], ◌∷◌, ◌++◌, length, get_or, refl, sym, ◌∙◌, ap, subst, arith, append_assoc, append-nil}
use Rattle.std.proofs.Common.{◌⊎◌, inl, inr, map, length-append, Result, Ok, Err, OnOk, OnErr, IfOk}
use Rattle.cstar_io.specs.Output.{Takes, TakesNothing, TakesPrefix}
use Rattle.cstar_io.proofs.Taking.{prefix_of_none, prefix_then, takes_then}
use Rattle.job_board.specs.declared.report.Report.{Report}
use Rattle.job_callers.specs.Sections.{AreAnswers, TakesPartOfBatch, TakesPartOfSection, TakesSection, TakesSections, section, sections}

-- no report, no section
pub no_sections : (names : List (List ℕ)) → sections names [] ≡ []
no_sections [] = refl
no_sections (name ∷ names) = refl

-- the section of the next name stands behind the others
pub one_section_more : (names : List (List ℕ)) (reports : List Report) (report : Report) (name : List ℕ) → length reports < length names
    → name ≡ get_or names (length reports) name → sections names (reports ++ report ∷ []) ≡ sections names reports ++ section name report
one_section_more [] reports report name inside is = absurd (omega (arith, inside))
one_section_more (first ∷ names) [] report name inside is =
    ap (λ rest. section first report ++ rest) (no_sections names) ∙ append-nil (section first report) ∙ ap (λ n. section n report) (sym is)
one_section_more (first ∷ names) (r ∷ reports) report name inside is =
    ap (λ rest. section first r ++ rest) (one_section_more names reports report name (omega (arith, inside)) is)
    ∙ sym (append_assoc (section first r) (sections names reports) (section name report))

-- one more report that answers its job
pub one_answer_more : (answers : ℕ → Report → Type 0) (number : ℕ) (reports : List Report) (report : Report) → AreAnswers answers number reports
    → answers (number + length reports) report → AreAnswers answers number (reports ++ report ∷ [])
one_answer_more answers number [] report before is =
    (subst (λ n. answers n report) (let e : number + 0 ≡ number = omega arith in e) is, tt)
one_answer_more answers number (r ∷ reports) report before is =
    let e : number + suc (length reports) ≡ (number + 1) + length reports = omega arith in
    (before.0, one_answer_more answers (number + 1) reports report before.1 (subst (λ n. answers n report) e is))

-- the name at a place, told by the words
pub name_at : {X : Type 0} (f : X → List ℕ) (xs : List X) (place : ℕ) (x : X) → place < length xs → x ≡ get_or xs place x → f x ≡ get_or (map f xs) place (f x)
name_at f [] place x inside is = absurd (omega (arith, inside))
name_at f (y ∷ xs) zero x inside is = ap f is
name_at f (y ∷ xs) (suc place) x inside is = name_at f xs place x (omega (arith, inside)) is

module _ {O : Type 0} (agrees : O → List ℕ → Type 0) (answers : ℕ → Report → Type 0) (names : List (List ℕ)) where
  pub none_taken : (out : O) → TakesSections agrees out out answers names 0
  none_taken out =
      ([], refl, tt, λ before is. subst (agrees out) (sym (ap (λ rest. before ++ rest) (no_sections names) ∙ append-nil before)) is)

  pub one_more_taken : (s t u : O) (count : ℕ) → count < length names → TakesSections agrees s t answers names count
      → TakesSection agrees t u answers names count → TakesSections agrees s u answers names (count + 1)
  one_more_taken s t u count inside (reports, long, are, took) (name, report, is, answered, put) =
      let named : name ≡ get_or names (length reports) name = is ∙ ap (λ n. get_or names n name) (sym long) in
      let one : answers (0 + length reports) report = subst (λ n. answers n report) (let e : count ≡ 0 + length reports = omega (arith, long) in e) answered in
      let grown = one_section_more names reports report name (omega (arith, long, inside)) named in (
        reports ++ report ∷ [],
        length-append reports (report ∷ []) ∙ (let e : length reports + 1 ≡ count + 1 = omega (arith, long) in e),
        one_answer_more answers 0 reports report are one,
        subst (λ bytes. Takes agrees s u bytes) (sym grown) (takes_then agrees s t u (sections names reports) (section name report) took put),
      )

  pub part_taken : (s t u : O) (count : ℕ) → count < length names → TakesSections agrees s t answers names count
      → TakesPartOfSection agrees t u answers names count → TakesPartOfBatch agrees s u answers names
  part_taken s t u count inside (reports, long, are, took) (inl nothing) = (
    reports,
    omega (arith, long, inside),
    are,
    subst (λ bytes. TakesPrefix agrees s u bytes) (append-nil (sections names reports))
        (prefix_then agrees s t u (sections names reports) [] took (prefix_of_none agrees t u [] nothing)),
  )
  part_taken s t u count inside (reports, long, are, took) (inr (name, report, is, answered, put)) =
      let named : name ≡ get_or names (length reports) name = is ∙ ap (λ n. get_or names n name) (sym long) in
      let one : answers (0 + length reports) report = subst (λ n. answers n report) (let e : count ≡ 0 + length reports = omega (arith, long) in e) answered in
      let grown = one_section_more names reports report name (omega (arith, long, inside)) named in
      let longer : length (reports ++ report ∷ []) ≡ length reports + 1 = length-append reports (report ∷ []) in (
        reports ++ report ∷ [],
        omega (arith, long, inside, longer),
        one_answer_more answers 0 reports report are one,
        subst (λ bytes. TakesPrefix agrees s u bytes) (sym grown) (prefix_then agrees s t u (sections names reports) (section name report) took put),
      )

-- the same of a list of bytes that is what the word says
pub named_at : {X : Type 0} (f : X → List ℕ) (xs : List X) (place : ℕ) (x : X) (name : List ℕ) → place < length xs → x ≡ get_or xs place x
    → name ≡ f x → name ≡ get_or (map f xs) place name
named_at f xs place x name inside is says =
    subst (λ n. n ≡ get_or (map f xs) place n) (sym says) (name_at f xs place x inside is)

-- the report of a call that went well answers the job
pub answers_well : {E : Type 0} (answers : ℕ → Report → Type 0) (number : ℕ) (result : Result Report E) (report : Report)
    → IfOk result (λ r. answers number r) → result ≡ Ok report → answers number report
answers_well answers number result report are was = subst (λ r. IfOk r (λ x. answers number x)) was are

-- what a put of a section answers
module _ {O A E : Type 0} (agrees : O → List ℕ → Type 0) (answers : ℕ → Report → Type 0) (names : List (List ℕ)) (number : ℕ) (s t : O) where
  pub section_taken : (name : List ℕ) (report : Report) → name ≡ get_or names number name → answers number report → (result : Result A E)
      → OnOk result (Takes agrees s t (section name report)) → OnOk result (TakesSection agrees s t answers names number)
  section_taken name report is answered (Ok x) took = (name, report, is, answered, took)
  section_taken name report is answered (Err e) took = tt

  pub section_part : (name : List ℕ) (report : Report) → name ≡ get_or names number name → answers number report → (result : Result A E)
      → OnErr result (TakesNothing agrees s t ⊎ TakesPrefix agrees s t (section name report)) → OnErr result (TakesPartOfSection agrees s t answers names number)
  section_part name report is answered (Ok x) took = tt
  section_part name report is answered (Err e) (inl nothing) = inl nothing
  section_part name report is answered (Err e) (inr part) = inr (name, report, is, answered, part)

-- a call that went well did not fail
pub not_failed : {A E P : Type 0} {x : A} {e : E} → (Ok x ≡ Err e) ⊎ P → P
not_failed (inl failed) = absurd (cc failed)
not_failed (inr same) = same
