-- The steps of a grid check name an axis each.
use Rattle.std.proofs.Common.{◌≡◌, ◌≢◌, ℕ, ◌+◌, ◌<◌, List, length, take, get_or, sym, ap, ◌∙◌, arith, Some, below_more}
use Rattle.std.specs.Prelude.{All}
use Rattle.std.specs.List.{slice_get}
use Rattle.std.proofs.lemmas.Option.{get_or_from_slice_get, slice_get-get_or, slice_get_within}
use Rattle.std.proofs.lemmas.List.{get_or-take}
use Rattle.std.proofs.Common.{length-take-le}
use Rattle.paris_code.specs.declared.operands.GridStep.{GridStep}
use Rattle.paris_code.specs.RuleSet.{axis_of}
use Rattle.image_check.specs.Steps.{AreDistinct}

last_differs : (steps : List GridStep) (i : ℕ) (step : GridStep) → slice_get steps i ≡ Some step →
    All (λ s. axis_of s ≢ axis_of step) (take i steps) →
    (j : ℕ) (a b : GridStep) → j < i → slice_get steps j ≡ Some a → slice_get steps i ≡ Some b → axis_of a ≢ axis_of b
last_differs steps i step at new j a b before ata atb =
    let inside : i < length steps = slice_get_within steps i step at in
    let short : length (take i steps) ≡ i = length-take-le i steps (omega arith) in
    let differs : axis_of (get_or (take i steps) j a) ≢ axis_of step = new j a (omega arith) in
    let same : get_or (take i steps) j a ≡ a = get_or-take i steps j a before ∙ get_or_from_slice_get steps j a a ata in
    let one : b ≡ step = cc in
    λ equal. differs (ap axis_of same ∙ equal ∙ ap axis_of one)

-- one more step, of a new axis
pub distinct_more : (steps : List GridStep) (i : ℕ) (step : GridStep) → slice_get steps i ≡ Some step →
    AreDistinct steps i → All (λ s. axis_of s ≢ axis_of step) (take i steps) → AreDistinct steps (i + 1)
distinct_more steps i step at before new j k a b jk ki ata atb =
    let P : ℕ → Type 0 = λ m. (j : ℕ) (a b : GridStep) → j < m → slice_get steps j ≡ Some a → slice_get steps m ≡ Some b → axis_of a ≢ axis_of b in
    below_more P i (λ m below j a b jm ata atb. before j m a b jm below ata atb) (last_differs steps i step at new) k ki j a b jk ata atb

-- of steps that name an axis each, the earlier ones do not name that of a later one
pub distinct_new : (steps : List GridStep) (i : ℕ) (step : GridStep) → slice_get steps i ≡ Some step →
    AreDistinct steps (length steps) → All (λ s. axis_of s ≢ axis_of step) (take i steps)
distinct_new steps i step at distinct k d inside =
    let there : i < length steps = slice_get_within steps i step at in
    let short : length (take i steps) ≡ i = length-take-le i steps (omega arith) in
    let before : k < i = omega arith in
    let same : get_or (take i steps) k d ≡ get_or steps k d = get_or-take i steps k d before in
    let differs : axis_of (get_or steps k d) ≢ axis_of step =
    distinct k i (get_or steps k d) step before there (slice_get-get_or steps k d (omega arith)) at in
    λ equal. differs (ap axis_of (sym same) ∙ equal)
