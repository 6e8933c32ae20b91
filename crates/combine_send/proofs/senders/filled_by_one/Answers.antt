use Rattle.std.proofs.Common.{◌≡◌, ℕ, ◌+◌, ◌-◌, ◌*◌, ◌<◌, ◌≤◌, None, ◌∙◌, refl, sym, subst, length, get_or, take, inl, inr, arith}
use Rattle.std.specs.Prelude.{vec_len}
use Rattle.std.proofs.lemmas.Bool.{cases_lt}
use Rattle.std.proofs.lemmas.List.{length-take-le, get_or-take}
use Rattle.combine_send.specs.Senders.{IsSlotOf}
use Rattle.combine_send.proofs.senders.filled_by_one.Goals as goal

pub loop-k-preserved : goal.loop-k-preserved
loop-k-preserved g c =
    let senders = c.args.senders.now in
    let k = c.loop-k.k in
    let old = c.loop-k.slots.items in
    let filled = c.block_slots-filled.result in
    let n : ℕ = c.min-some.result in
    let few : n ≤ 512 = omega (arith, c.min-some.ensures) in
    let part : length (take n filled) ≡ n = length-take-le n filled (omega (arith, few)) in
    let so_far : length old ≡ 512 * k = omega (arith, c.loop-k.invariant.0, c.loop-k-test.true, c.div_ceil-k-end.ensures) in
    let longer = c.in_ok-extend_from_slice.ensures.len in (
      omega (arith, longer, part, so_far, c.min-some.ensures, c.loop-k-test.true, c.div_ceil-k-end.ensures),
      λ t b. elim (cases_lt t (vec_len c.loop-k.slots)) [
        | inl l ↦ subst (IsSlotOf senders t) (sym (c.in_ok-extend_from_slice.ensures.by_index.0 t None l)) (c.loop-k.invariant.1 t (omega (arith, l)))
        | inr h ↦
            let i : ℕ = t - vec_len c.loop-k.slots in
            let inside : i < n = omega (arith, b, longer, part, h) in
            let lane : i < 512 = omega (arith, inside, few) in
            subst (IsSlotOf senders t) (sym (c.in_ok-extend_from_slice.ensures.by_index.1 t None refl h ∙ get_or-take n filled i None inside))
            (subst (λ s. IsSlotOf senders s (get_or filled i None)) (let e : 512 * k + i ≡ t = omega (arith, so_far, h) in e) (c.block_slots-filled.ensures i lane))
      ],
    )
