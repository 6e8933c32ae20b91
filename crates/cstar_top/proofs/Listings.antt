-- What a sink took of a listing.
use Rattle.std.proofs.Common.{◌≡◌, ◌⊎◌, ℕ, List, inl, ap, arith}
use Rattle.cstar_base.specs.declared.faults.Fault.TheVariants as F
use Rattle.cstar_io.specs.Output.{TakesNothing}
use Rattle.point_runs.specs.Refusals.{file_start}
use Rattle.cstar_top.specs.declared.answer.Answer.{Answer}
use Rattle.cstar_top.specs.declared.answer.Answer.TheVariants as A
use Rattle.cstar_top.specs.Answers.{status_of}

-- a sink that is as before took nothing
pub nothing_taken : {O X : Type 0} (agrees : O → List ℕ → Type 0) (s : O) → TakesNothing agrees s s ⊎ X
nothing_taken agrees s = inl (λ before is. is)

-- a refusal is no good end
pub refused_not_done : (answer : Answer) → answer ≡ A.Refused F.TooLong file_start → status_of answer ≡ 0 → ⊥
refused_not_done answer is done = let status : status_of answer ≡ 3 = ap status_of is in omega (arith, status, done)
