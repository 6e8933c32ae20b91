-- What a batch puts: a section for each name, in order.
use Rattle.std.specs.Prelude.{◌≡◌, ℕ, ◌+◌, ◌≤◌, List, [], ◌∷◌, ◌++◌, codes, decimal, length, get_or, ◌⊎◌}
use Rattle.cstar_io.specs.Output.{Takes, TakesNothing, TakesPrefix}
use Rattle.job_board.specs.declared.report.Report.{Report}

-- a space and a number
abbrev pub counted : ℕ → List ℕ
counted number = codes " " ++ decimal number

-- `== NAME STATUS OUTLEN ERRLEN`
abbrev pub heading : List ℕ → Report → List ℕ
heading name report =
    codes "== " ++ (name ++ (counted report.status ++ (counted (length report.out) ++ counted (length report.err))))

-- the heading's line, the two outputs of the report, and a newline
unfoldable pub section : List ℕ → Report → List ℕ
section name report = heading name report ++ (codes "\n" ++ (report.out ++ (report.err ++ codes "\n")))

-- the sections of the first names, one for each report
abbrev pub sections : List (List ℕ) → List Report → List ℕ
sections [] reports = []
sections (name ∷ names) [] = []
sections (name ∷ names) (report ∷ reports) = section name report ++ sections names reports

-- each report answers its job, the first of them that of this number
abbrev pub AreAnswers : (ℕ → Report → Type 0) → ℕ → List Report → Type 0
AreAnswers answers number [] = Unit {0}
AreAnswers answers number (report ∷ reports) = answers number report × AreAnswers answers (number + 1) reports

-- a sink took the sections of so many first names, each of a report that answers its job
abbrev pub TakesSections : {O : Type 0} → (O → List ℕ → Type 0) → O → O → (ℕ → Report → Type 0) → List (List ℕ) → ℕ → Type 0
TakesSections agrees old new answers names count =
    (reports : List Report) × (length reports ≡ count) × AreAnswers answers 0 reports × Takes agrees old new (sections names reports)

-- a sink took the whole batch: a section for each name
abbrev pub TakesBatch : {O : Type 0} → (O → List ℕ → Type 0) → O → O → (ℕ → Report → Type 0) → List (List ℕ) → Type 0
TakesBatch agrees old new answers names = TakesSections agrees old new answers names (length names)

-- a sink took the first bytes of the sections of some first names
abbrev pub TakesPartOfBatch : {O : Type 0} → (O → List ℕ → Type 0) → O → O → (ℕ → Report → Type 0) → List (List ℕ) → Type 0
TakesPartOfBatch agrees old new answers names =
    (reports : List Report) × (length reports ≤ length names) × AreAnswers answers 0 reports × TakesPrefix agrees old new (sections names reports)

-- a sink took nothing, or the first bytes of the section of this name, of a report that answers its job
abbrev pub TakesPartOfSection : {O : Type 0} → (O → List ℕ → Type 0) → O → O → (ℕ → Report → Type 0) → List (List ℕ) → ℕ → Type 0
TakesPartOfSection agrees old new answers names number =
    TakesNothing agrees old new
    ⊎ ((name : List ℕ) × (report : Report) × (name ≡ get_or names number name) × answers number report × TakesPrefix agrees old new (section name report))

-- a sink took that section
abbrev pub TakesSection : {O : Type 0} → (O → List ℕ → Type 0) → O → O → (ℕ → Report → Type 0) → List (List ℕ) → ℕ → Type 0
TakesSection agrees old new answers names number =
    (name : List ℕ) × (report : Report) × (name ≡ get_or names number name) × answers number report × Takes agrees old new (section name report)
