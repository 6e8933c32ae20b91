use Rattle.std.proofs.Common.{ℕ, Bool, ◌+◌, ◌*◌, cond, ap, sym, ◌∙◌, inl, inr, arith}
use Rattle.std.proofs.lemmas.Bool.{cases_lt, lt-ltb, le-ltb}
use Rattle.vp_sets.specs.Positions.{position_count}
use Rattle.vp_sets.specs.Blocks.{block_start, block_end}
use Rattle.block_store.proofs.set.used_lanes.Goals as goal

pub returns : goal.returns
unfolding block_start block_end
returns c = λ i h.
    let there : ℕ = 512 * c.args.k + i in
    let count : ℕ = position_count c.args.geometry.now in
    let flag : Bool → ℕ = λ t. cond t 1 0 in
    c.first_lanes.ensures i h ∙ elim (cases_lt there count) [
      | inl l ↦ ap flag (lt-ltb i _ (omega (arith, c.block_range-start.ensures.start, c.block_range-start.ensures.end)) ∙ sym (lt-ltb there count l))
      | inr g ↦ ap flag (le-ltb i _ (omega (arith, c.block_range-start.ensures.start, c.block_range-start.ensures.end)) ∙ sym (le-ltb there count g))
    ]
