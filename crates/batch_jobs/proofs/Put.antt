-- A put that goes past the limit.
use Rattle.std.proofs.Common.{◌≡◌, ◌≢◌, ◌<◌, ◌≤◌, ℕ, ◌+◌, Bool, List, ◌++◌, length, take, ap, arith, length-append, subst, sym, Result, Ok, Err, OnErr}
use Rattle.std.proofs.Math.Seq.{take-length}
use Rattle.batch_jobs.specs.Pages.{MayHave}

-- what was given is then more than the limit
past : (old new : ℕ) (was over : Bool) (limit : ℕ) (held then bytes : List ℕ) → old ≤ 0 → new ≢ 0 → limit < length held + length bytes
    → (before : List ℕ) → MayHave old was limit held before → MayHave new over limit then (before ++ bytes)
past old new was over limit held then bytes none some more before is =
    let same : length before ≡ length held = ap length (is.0 (omega arith)) in
    (λ zero. absurd (some zero), λ _. omega (arith, length-append before bytes))

pub past_limit : {A E : Type 0} → (r : Result A E) (old new : ℕ) (was over : Bool) (limit : ℕ) (held then bytes : List ℕ) → old ≤ 0 → new ≢ 0 → limit < length held + length bytes
    → OnErr r ((count : ℕ) × ((before : List ℕ) → MayHave old was limit held before → MayHave new over limit then (before ++ take count bytes)))
past_limit (Ok x) old new was over limit held then bytes none some more = tt
past_limit (Err e) old new was over limit held then bytes none some more = (
  length bytes,
  λ before is. subst (λ (xs : List ℕ). MayHave new over limit then (before ++ xs)) (sym (take-length bytes))
      (past old new was over limit held then bytes none some more before is),
)
