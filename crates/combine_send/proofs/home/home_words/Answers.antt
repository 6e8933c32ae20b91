use Rattle.std.proofs.Common.{◌≡◌, ℕ, ◌+◌, ◌-◌, ◌*◌, ◌<◌, ◌≤◌, ◌∙◌, ap, sym, length, take, inl, inr, refl, arith}
use Rattle.std.specs.Prelude.{vec_len}
use Rattle.std.proofs.lemmas.Bool.{cases_lt}
use Rattle.std.proofs.lemmas.List.{length-take-le, get_or-take}
use Rattle.vp_sets.specs.Blocks.{block_start, block_end, block_count}
use Rattle.vp_sets.specs.Positions.{position_count}
use Rattle.cstar_base.specs.Numbers.{residue, number_of}
use Rattle.bit_planes.specs.Planes.{number}
use Rattle.paris_code.specs.Memory.{whole_number}
use Rattle.block_store.specs.Planes.{planes_in}
use Rattle.block_store.specs.Stored.{shapes_in, memory_in}
use Rattle.block_store.proofs.Stores.{held}
use Rattle.combine_send.proofs.Homes.{lane_number}
use Rattle.combine_send.proofs.home.home_words.Goals as goal

pub slice_bounds-extend_from_slice-end : goal.slice_bounds-extend_from_slice-end
unfolding block_start block_end
slice_bounds-extend_from_slice-end c =
    sym (length-take-le (c.block_range-start.result.1 - c.block_range-start.result.0) c.extended_words-words.result
    (omega (arith, c.block_range-start.ensures.start, c.block_range-start.ensures.end)))

pub slice_bounds-words-end : goal.slice_bounds-words-end
unfolding block_start block_end
slice_bounds-words-end c = omega (arith, c.block_range-start.ensures.start, c.block_range-start.ensures.end)

pub loop-k-preserved : goal.loop-k-preserved
unfolding block_start block_end whole_number
loop-k-preserved c =
    let shapes = shapes_in c.args.store.now in
    let sets = c.args.store.now.sets.items in
    let field = c.args.field in
    let whole = c.requires.whole in
    let exists = c.requires.field.0 in
    let same = held shapes sets field.set c.from.result c.index-set.result.now whole exists c.from.ensures c.index-set.ensures in
    let k = c.loop-k.k in
    let old = c.loop-k.home.items in
    let words = c.extended_words-words.result in
    let n : ℕ = c.block_range-start.result.1 - c.block_range-start.result.0 in
    let few : n ≤ 512 = omega (arith, c.block_range-start.ensures.start, c.block_range-start.ensures.end) in
    let part : length (take n words) ≡ n = length-take-le n words (omega (arith, few)) in
    let so_far : length old ≡ 512 * k = omega (arith, c.loop-k.invariant.0, c.block_range-start.ensures.start, c.block_range-start.ensures.end, c.block_range-start.ensures.some) in
    let there : k < length c.index-set.result.now.blocks.items =
    omega (arith, ap length same, (whole.each field.set exists).count, c.loop-k-test.true, c.block_count-k-end.ensures.value, ap block_count c.plan.ensures.extents) in
    let longer = c.in_ok-extend_from_slice.ensures.len in (
      omega (arith, longer, part, so_far, c.block_range-start.ensures.start, c.block_range-start.ensures.end),
      λ w t b. elim (cases_lt t (vec_len c.loop-k.home)) [
        | inl l ↦ c.in_ok-extend_from_slice.ensures.by_index.0 t 0 l ∙ c.loop-k.invariant.1 w t (omega (arith, l))
        | inr g ↦
            let i : ℕ = t - vec_len c.loop-k.home in
            let inside : i < n = omega (arith, b, longer, part, g) in
            let lane : i < 512 = omega (arith, inside, few) in
            c.in_ok-extend_from_slice.ensures.by_index.1 t 0 refl g ∙ get_or-take n words i 0 inside ∙ c.extended_words-words.ensures i lane
            ∙ ap (λ x. residue 32 (number_of field.len c.args.signed x))
            (ap (λ block. number (planes_in block) field.offset field.len i) c.index.ensures
            ∙ lane_number sets w field c.index-set.result.now.blocks.items k i c.index.result.now same there lane)
            ∙ ap (λ s. residue 32 (whole_number (memory_in c.args.store.now w) c.args.signed field s)) (let e : 512 * k + i ≡ t = omega (arith, so_far, g) in e)
      ],
    )

pub returns-clause-count : goal.returns-clause-count
unfolding block_count
returns-clause-count c = omega (arith, c.loop-k.invariant.0, c.loop-k-test.false, c.loop-k.auto.k-end, c.block_count-k-end.ensures.value, ap position_count c.plan.ensures.extents)

pub returns-clause-words : goal.returns-clause-words
unfolding block_count
returns-clause-words c = λ w t b.
    c.loop-k.invariant.1 w t (omega (arith, b, c.loop-k.invariant.0, c.loop-k-test.false, c.loop-k.auto.k-end, c.block_count-k-end.ensures.value, ap position_count c.plan.ensures.extents))
