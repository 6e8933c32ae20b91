use Rattle.std.proofs.Common.{◌≡◌, ℕ, ◌+◌, ◌*◌, ◌%◌, ◌^◌, List, [], ◌∷◌, length, ap, subst, arith}
use Rattle.std.specs.Prelude.{slice_index}
use Rattle.vp_sets.specs.Positions.{position_count, number_at}
use Rattle.paris_code.specs.Arguments.{behind_coordinate}
use Rattle.phase_meaning.proofs.Addresses.{Goes, goes_on}
use Rattle.elementwise.specs.Blocks.{block_memory}
use Rattle.elementwise.proofs.columns.+addresses.Goals as goal

-- of no more coordinates
ends : (extents coordinates : List ℕ) (number : ℕ) → length extents ≡ 0 → number % 2 ^ 32 ≡ (number * position_count extents + number_at extents coordinates) % 2 ^ 32
unfolding position_count number_at
ends [] coordinates number is = ap (λ n. n % 2 ^ 32) (let e : number ≡ number * 1 + 0 = omega arith in e)
ends (e ∷ es) coordinates number is = absurd (omega (arith, is))

pub returns-in-Some-Some : goal.returns-in-Some-Some
returns-in-Some-Some t c = λ p.
    let m = block_memory c.args.block.now.planes.items in
    let i : ℕ = p % 512 in
    let number = slice_index c.args.numbers i in
    let here = slice_index c.coordinate_words-here.result i in
    let result : ℕ = slice_index c.addresses.result i % 2 ^ 32 in
    goes_on m c.args.extents.now c.in-Some-Some.later.now c.in-Some-Some.extent.now c.args.list.now c.in-Some-Some.rest.now c.in-Some-Some.first.now c.args.args.now p number here result
    c.in-Some-Some.ensures.cases.0 c.in-Some-Some.ensures'.cases.0 (c.coordinate_words-here.ensures p)
    (subst (λ next. Goes m c.in-Some-Some.later.now c.in-Some-Some.rest.now (behind_coordinate c.in-Some-Some.first.now c.args.args.now) p next result) (c.joined-numbers.ensures i (omega arith))
    (subst (λ rest_args. Goes m c.in-Some-Some.later.now c.in-Some-Some.rest.now rest_args p (slice_index c.joined-numbers.result i) result) c.behind.ensures (c.addresses.ensures p)))

pub returns-in_default-2 : goal.returns-in_default-2
returns-in_default-2 t c = λ p. ends c.args.extents.now _ (slice_index c.args.numbers (p % 512)) c.in_default.ensures.cases
