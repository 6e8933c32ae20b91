-- What happened to a list of jobs: which numbers were drawn, which reports were posted, and in which order.
use Rattle.std.specs.Prelude.{◌≡◌, ℕ, ◌<◌, Bool, true, false, List, [], ◌∷◌, Option, Some, None, length, take, eqb, if◌then◌else◌}
use Rattle.std.specs.List.{list_any, slice_get}
use Rattle.job_board.specs.declared.entry.Entry.{Entry}
use Rattle.job_board.specs.declared.entry.Entry.TheVariants as E
use Rattle.job_board.specs.declared.report.Report.{Report}

-- whether an entry draws a number
abbrev pub draws : ℕ → Entry → Bool
draws wanted (E.Drawn number) = eqb wanted number
draws wanted (E.Posted number report) = false

-- whether an entry posts the report for a number
abbrev pub posts : ℕ → Entry → Bool
posts wanted (E.Drawn number) = false
posts wanted (E.Posted number report) = eqb wanted number

abbrev pub is_drawn : ℕ → List Entry → Bool
is_drawn number history = list_any (draws number) history

abbrev pub is_posted : ℕ → List Entry → Bool
is_posted number history = list_any (posts number) history

-- the numbers that were drawn, in order
abbrev pub drawn : List Entry → List ℕ
drawn [] = []
drawn (E.Drawn number ∷ rest) = number ∷ drawn rest
drawn (E.Posted number report ∷ rest) = drawn rest

-- the numbers whose reports were posted, in order
abbrev pub posted : List Entry → List ℕ
posted [] = []
posted (E.Drawn number ∷ rest) = posted rest
posted (E.Posted number report ∷ rest) = number ∷ posted rest

-- the report that was posted for a number
abbrev pub reported : ℕ → List Entry → Option Report
reported number [] = None
reported number (E.Drawn other ∷ rest) = reported number rest
reported number (E.Posted other report ∷ rest) = if eqb number other then Some report else reported number rest

-- what may happen behind a history: the next number of the `jobs` numbers is drawn, or a report that answers its job is
-- posted for a number that was drawn and not posted
abbrev pub MayFollow : ℕ → (ℕ → Report → Type 0) → List Entry → Entry → Type 0
MayFollow jobs answers before (E.Drawn number) = (number ≡ length (drawn before)) × (number < jobs)
MayFollow jobs answers before (E.Posted number report) =
    (is_drawn number before ≡ true) × (is_posted number before ≡ false) × answers number report

-- each entry may follow those before it
pub record IsLegal (jobs : ℕ) (answers : ℕ → Report → Type 0) (history : List Entry) : Type 0 where
  pub each : (place : ℕ) (entry : Entry) → slice_get history place ≡ Some entry → MayFollow jobs answers (take place history) entry
