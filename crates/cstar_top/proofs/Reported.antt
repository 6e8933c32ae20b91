-- The statuses that the report of a run comes with.
use Rattle.std.proofs.Common.{◌≡◌, ◌≢◌, ℕ, List, Option, ◌⊎◌, inl, inr, arith}
use Rattle.cstar_words.specs.declared.options.Options.{Options}
use Rattle.point_runs.specs.Courses.{Course}
use Rattle.point_runs.specs.Starts.{Origin}
use Rattle.cstar_top.specs.declared.answer.Answer.{Answer}
use Rattle.cstar_top.specs.Reported.{IsWhole, ReportsText}

-- the statuses of outputs that were taken whole are none of the others
pub whole_not : (s : ℕ) → IsWhole s → (s ≢ 2) × (s ≢ 3) × (s ≢ 5) × (s ≢ 6) × (s ≢ 8)
whole_not s (inl is) = (λ h. omega arith, λ h. omega arith, λ h. omega arith, λ h. omega arith, λ h. omega arith)
whole_not s (inr (inl is)) = (λ h. omega arith, λ h. omega arith, λ h. omega arith, λ h. omega arith, λ h. omega arith)
whole_not s (inr (inr (inl is))) = (λ h. omega arith, λ h. omega arith, λ h. omega arith, λ h. omega arith, λ h. omega arith)
whole_not s (inr (inr (inr (inl is)))) = (λ h. omega arith, λ h. omega arith, λ h. omega arith, λ h. omega arith, λ h. omega arith)
whole_not s (inr (inr (inr (inr is)))) = (λ h. omega arith, λ h. omega arith, λ h. omega arith, λ h. omega arith, λ h. omega arith)

-- so such a status is the answer's
pub whole_is : (r s : ℕ) → IsWhole r → (r ≡ s) ⊎ ((r ≡ 6) ⊎ (r ≡ 8)) → r ≡ s
whole_is r s whole (inl same) = same
whole_is r s whole (inr (inl six)) = absurd ((whole_not r whole).3 six)
whole_is r s whole (inr (inr eight)) = absurd ((whole_not r whole).4 eight)

-- a report of which more is so
pub reported_as : {O : Type 0} (agrees : O → List ℕ → Type 0) (s t : O) (left rest : Option (List ℕ)) (options : Options) (text : List ℕ) (answer : Answer) (More Other : Origin → Course → Type 0) → ((from : Origin) (course : Course) → More from course → Other from course) → ReportsText agrees s t left rest options text answer More → ReportsText agrees s t left rest options text answer Other
reported_as agrees s t left rest options text answer More Other more (from, begins, said) =
    (from, begins, (said.0, said.1, said.2, said.3, said.4, more from said.0 said.5))
