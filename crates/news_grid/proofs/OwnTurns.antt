-- Turns of whole blocks: where the blocks of a turn lie, and what a window shows that goes round the end of its own turn.
use Rattle.std.proofs.Common.{◌≡◌, ℕ, ◌+◌, ◌-◌, ◌*◌, ◌/◌, ◌%◌, ◌<◌, ◌≤◌, sym, ◌∙◌, ap, inl, inr, arith}
use Rattle.std.proofs.Math.Arith.{mod-mul}
use Rattle.std.proofs.Math.Nat.{mod-eq_of_lt, mod-lt, mod-le, mul-le-mul_right}
use Rattle.std.proofs.lemmas.Bool.{cases_lt}
use Rattle.std.proofs.lemmas.Nat.{div_below, div-add-mod'}
use Rattle.phase_meaning.proofs.Tests.{less, not_less}
use Rattle.news_grid.specs.declared.step.Step.{Step}
use Rattle.news_grid.specs.declared.window.Window.{Window}
use Rattle.news_grid.specs.Steps.{led, turn_blocks, position_seen}
use Rattle.news_grid.proofs.Steps.{past_once}

-- a turn that has blocks is made of them
pub whole_turn : (turn blocks : ℕ) → blocks ≡ turn_blocks turn → 0 < blocks → turn ≡ 512 * blocks
whole_turn turn blocks is some = grind arith

-- all blocks of a turn lie in the set that the turns fill
pub turn_in_set : (turn blocks positions k m : ℕ) → 0 < blocks → turn ≡ 512 * blocks → positions % turn ≡ 0 → m / blocks ≡ k / blocks → 512 * k < positions → 512 * m < positions
turn_in_set turn blocks positions k m some whole fill same inside =
    let turns : ℕ = positions / turn in
    let all : positions ≡ 512 * (turns * blocks) =
    (let q : positions ≡ turns * turn = omega (arith, div-add-mod' positions turn, fill) in q) ∙ ap (λ t. turns * t) whole ∙ (let q : turns * (512 * blocks) ≡ 512 * (turns * blocks) = grind arith in q) in
    let own : k / blocks < turns = div_below k blocks turns some (omega (arith, all, inside)) in
    let most : (m / blocks + 1) * blocks ≤ turns * blocks = mul-le-mul_right blocks (let q : m / blocks + 1 ≤ turns = omega (arith, own, same) in q) in
    let more : (m / blocks + 1) * blocks ≡ m / blocks * blocks + blocks = grind arith in
    omega (arith, all, most, more, div-add-mod' m blocks, mod-lt m some)

module _ (step : Step) (k : ℕ) (some : 0 < step.blocks) (whole : step.turn ≡ 512 * step.blocks) (short : step.ahead < step.turn) where
  -- the blocks of its turn that lie before block k
  abbrev past : ℕ
  past = k % step.blocks

  lane_past : (i : ℕ) → i < 512 → (512 * k + i) % step.turn ≡ 512 * past + i
  lane_past i ib =
      let n : ℕ = 512 * k + i in
      let unit : 0 < 512 = omega arith in
      ap (λ t. n % t) (let q : step.turn ≡ step.blocks * 512 = omega (arith, whole) in q) ∙ mod-mul n some unit
      ∙ ap (λ c. c % step.blocks * 512 + n % 512) (let q : n / 512 ≡ k = omega (arith, ib) in q) ∙ (let q : past * 512 + n % 512 ≡ 512 * past + i = omega (arith, ib) in q)

  -- to lane d of the block that is q blocks behind the start of the turn, round its end
  round_led : (i q d : ℕ) → i < 512 → d < 512 → q < 2 * step.blocks → 512 * q + d ≡ 512 * past + i + step.ahead → 512 * (k - past + q % step.blocks) + d ≡ led step (512 * k + i)
  round_led i q d ib db few e =
      let n : ℕ = 512 * k + i in
      let m : ℕ = n % step.turn in
      let at : m ≡ 512 * past + i = lane_past i ib in
      let own : past ≤ k = mod-le k step.blocks in
      elim (cases_lt q step.blocks) [
        | inl l ↦
            let same : q % step.blocks ≡ q = mod-eq_of_lt l in
            (let p : 512 * (k - past + q % step.blocks) + d ≡ n + step.ahead = omega (arith, same, own, e) in p)
            ∙ less (m + step.ahead) step.turn (n + step.ahead) (n + step.ahead - step.turn) (omega (arith, at, e, l, db, whole))
        | inr g ↦
            let back : q % step.blocks ≡ q - step.blocks = past_once q step.blocks g few in
            (let p : 512 * (k - past + q % step.blocks) + d ≡ n + step.ahead - step.turn = omega (arith, back, own, e, g, whole) in p)
            ∙ not_less (m + step.ahead) step.turn (n + step.ahead) (n + step.ahead - step.turn) (omega (arith, at, e, g, whole))
      ]

  -- a window that begins where the step leads from the first lane shows where it leads from each
  pub window_shows : (window : Window) → window.from ≡ step.ahead % 512 → window.first ≡ k - past + (past + step.ahead / 512) % step.blocks → window.next ≡ k - past + (past + step.ahead / 512 + 1) % step.blocks
      → (i : ℕ) → i < 512 → position_seen window i ≡ led step (512 * k + i)
  window_shows window from first next i ib =
      let n : ℕ = window.from + i in
      let low : ℕ = 512 * window.first + n in
      let high : ℕ = 512 * window.next + (n - 512) in
      let own : past < step.blocks = mod-lt k some in
      elim (cases_lt n 512) [
        | inl l ↦ sym (less n 512 low high l) ∙ ap (λ b. 512 * b + n) first
            ∙ round_led i (past + step.ahead / 512) n ib l (omega (arith, own, short, whole)) (omega (arith, from))
        | inr g ↦ sym (not_less n 512 low high g) ∙ ap (λ b. 512 * b + (n - 512)) next
            ∙ round_led i (past + step.ahead / 512 + 1) (n - 512) ib (omega (arith, from, ib)) (omega (arith, own, short, whole)) (omega (arith, from, g))
      ]
