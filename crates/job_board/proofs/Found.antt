-- The report that a search of a history finds.
use Rattle.std.proofs.Common.{◌≡◌, ℕ, zero, suc, ◌<◌, ◌≤◌, Bool, true, false, cond, ◌||◌, List, [], ◌∷◌, Some, None, length, get_or, eqb, refl, sym, ◌∙◌, ap, subst, arith}
use Rattle.std.proofs.lemmas.Bool.{eqb-true}
use Rattle.std.proofs.lemmas.Grind.{common_steps}
use Rattle.std.specs.List.{list_any, position, position_or_len}
use Rattle.std.proofs.lemmas.List.Quantifiers.{position-Some}
use Rattle.std.proofs.lemmas.List.Sums.{fails_before_first}
use Rattle.std.proofs.lemmas.Option.{slice_get-get_or}
use Rattle.job_board.specs.declared.entry.Entry.{Entry}
use Rattle.job_board.specs.declared.entry.Entry.TheVariants as E
use Rattle.job_board.specs.declared.report.Report.{Report}
use Rattle.job_board.specs.History.{IsLegal, is_posted, posts, reported}

none_passes : {X : Type 0} (p : X → Bool) (xs : List X) (d : X) → ((k : ℕ) → k < length xs → p (get_or xs k d) ≡ false) → list_any p xs ≡ false
none_passes p [] d none = refl
none_passes p (x ∷ xs) d none = ap (λ b. b || list_any p xs) (none 0 (omega arith)) ∙ none_passes p xs d (λ k below. none (suc k) (omega (arith, below)))

-- where no entry posts a report for a number, none is posted
pub none_posted : (number : ℕ) (history : List Entry) → position (posts number) history ≡ None → is_posted number history ≡ false
none_posted number [] none = refl
none_posted number (entry ∷ rest) none =
    let history : List Entry = entry ∷ rest in
    let past : length history ≤ position_or_len (posts number) history = grind (arith, common_steps) in
    none_passes (posts number) history entry (λ k below. fails_before_first (posts number) history k entry (omega (arith, past, below)))

report_of : (one : ℕ) (first : Report) (other : ℕ) (second : Report) → E.Posted one first ≡ E.Posted other second → first ≡ second
report_of one first other second is = cc is

number_of : (one : ℕ) (first : Report) (other : ℕ) (second : Report) → E.Posted one first ≡ E.Posted other second → one ≡ other
number_of one first other second is = cc is

-- the first entry that posts a report for a number has the report
first_posted : (number : ℕ) (history : List Entry) (at : ℕ) (entry : Entry) → at < length history
    → ((k : ℕ) → k < at → posts number (get_or history k entry) ≡ false)
    → (other : ℕ) (report : Report) → get_or history at entry ≡ E.Posted other report → eqb number other ≡ true → reported number history ≡ Some report
first_posted number [] at entry below before other report is same = absurd (omega (arith, below))
first_posted number (E.Drawn number' ∷ rest) zero entry below before other report is same = absurd (cc is)
first_posted number (E.Posted number' report' ∷ rest) zero entry below before other report is same =
    ap (λ b. cond b (Some report') (reported number rest)) (ap (eqb number) (number_of number' report' other report is) ∙ same) ∙ ap Some (report_of number' report' other report is)
first_posted number (E.Drawn number' ∷ rest) (suc at) entry below before other report is same =
    first_posted number rest at entry (omega (arith, below)) (λ k less. before (suc k) (omega (arith, less))) other report is same
first_posted number (E.Posted number' report' ∷ rest) (suc at) entry below before other report is same =
    ap (λ b. cond b (Some report') (reported number rest)) (before 0 (omega arith))
    ∙ first_posted number rest at entry (omega (arith, below)) (λ k less. before (suc k) (omega (arith, less))) other report is same

pub found_posted : (number : ℕ) (history : List Entry) (at : ℕ) (entry : Entry) (other : ℕ) (report : Report)
    → position (posts number) history ≡ Some at → entry ≡ get_or history at entry → entry ≡ E.Posted other report
    → reported number history ≡ Some report
found_posted number history at entry other report found here is =
    let facts = position-Some (posts number) history at entry found in
    let same : eqb number other ≡ true = ap (posts number) (sym is ∙ here) ∙ facts.1 in
    first_posted number history at entry facts.0 facts.2 other report (sym here ∙ is) same

-- an entry that draws is not the first that posts
pub drawn_not_found : (number : ℕ) (history : List Entry) (at : ℕ) (entry : Entry) (other : ℕ)
    → position (posts number) history ≡ Some at → entry ≡ get_or history at entry → entry ≡ E.Drawn other → ⊥
drawn_not_found number history at entry other found here is =
    let facts = position-Some (posts number) history at entry found in
    let same : false ≡ true = ap (posts number) (sym is ∙ here) ∙ facts.1 in
    absurd (cc same)

-- the report of a legal history answers its job
pub reported_answers : (jobs : ℕ) (answers : ℕ → Report → Type 0) (number : ℕ) (history : List Entry) (at : ℕ) (entry : Entry) (other : ℕ) (report : Report)
    → IsLegal jobs answers history → position (posts number) history ≡ Some at → entry ≡ get_or history at entry → entry ≡ E.Posted other report
    → answers number report
reported_answers jobs answers number history at entry other report legal found here is =
    let facts = position-Some (posts number) history at entry found in
    let same : eqb number other ≡ true = ap (posts number) (sym is ∙ here) ∙ facts.1 in
    let got = slice_get-get_or history at entry facts.0 ∙ ap Some (sym here ∙ is) in
    subst (λ n. answers n report) (sym (eqb-true number other same)) (legal.each at (E.Posted other report) got).2
