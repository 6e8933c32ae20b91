use Rattle.std.proofs.Common.{◌≡◌, ℕ, ◌+◌, ◌-◌, ◌*◌, ◌%◌, ◌<◌, ◌∙◌, get_or, ap, subst, inl, inr, arith}
use Rattle.std.specs.Int.{bit_at}
use Rattle.point_bits.specs.Strings.{RunPut}
use Rattle.point_bits.proofs.Runs.{put_more}
use Rattle.point_bits.proofs.strings.SetString.put.Goals as goal

pub lanes-preserved : goal.lanes-preserved
lanes-preserved c =
    let lane = c.lanes.lane in
    let few : lane < 512 = omega (arith, c.lanes-test.true, c.positions_in-lane-end.ensures.few) in
    let p : ℕ = 512 * c.args.block + lane in
    let e : p + 1 ≡ 512 * c.args.block + (lane + 1) = omega arith in
    let at : c.place.result ≡ p * c.args.self.width + c.args.run.offset = c.place.ensures.place in
    let own : lane ≡ p % 512 = omega (arith, few) in
    subst (λ (n : ℕ). RunPut n c.args.self.width c.args.run c.args.block c.args.words.now c.args.bytes.now c.put_number.new.bytes) e
    (put_more p c.args.self.width c.args.run c.args.block c.args.words.now c.args.bytes.now c.lanes.bytes c.put_number.new.bytes (omega (arith, few)) c.requires.run.2 c.lanes.invariant
    c.put_number.ensures.long
    (λ n l h. c.put_number.ensures.inside n (omega (arith, l, at)) (omega (arith, h, at))
    ∙ ap (λ i. bit_at (get_or c.args.words.now i 0) (n - c.place.result)) own ∙ ap (λ q. bit_at (get_or c.args.words.now (p % 512) 0) (n - q)) at)
    (λ n apart. c.put_number.ensures.outside n (elim apart [ inl l ↦ inl (omega (arith, l, at)) | inr h ↦ inr (omega (arith, h, at)) ])))
