-- Where the machine parts a line is where a segment of the language begins on it.
use Rattle.std.proofs.Common.{◌≡◌, ℕ, ◌+◌, ◌-◌, ◌<◌, Bool, true, false, ◌&&◌, ◌∙◌, ap, refl, arith}
use Rattle.vp_sets.specs.Lines.{steps_before}
use Rattle.cstar_base.specs.declared.operators.Direction.{Direction}
use Rattle.cstar_base.specs.declared.operators.Direction.TheVariants as D
use Rattle.cstar_base.specs.declared.operators.SegmentMode.{SegmentMode}
use Rattle.cstar_base.specs.declared.operators.SegmentMode.TheVariants as M
use Rattle.cstar_base.specs.Orders.{any_of}
use Rattle.paris_code.specs.Scanning.{parts}
use Rattle.source_meaning.specs.Scans.{is_parted}
use Rattle.communication_laws.specs.Scans.{bit_counts}
use Rattle.communication_laws.proofs.Orders.{any_alike, any_turned}

-- does a segment begin where the position is active or not, and its bit is 1 or not
abbrev pub begins_by : SegmentMode → Bool → Bool → Bool
begins_by M.NoSegments active bit = false
begins_by M.SegmentBit active bit = bit
begins_by M.StartBit active bit = active && bit

-- the machine parts a line between a coordinate and the next one in the direction
abbrev pub parted : SegmentMode → Direction → ℕ → (ℕ → Bool) → (ℕ → Bool) → ℕ → Bool
parted mode direction extent active bit step =
    parts mode direction (bit (steps_before direction extent step)) (bit (steps_before direction extent (step + 1))) (active (steps_before direction extent (step + 1)))

-- On a line of this extent the machine and the language have the same active positions, and the same bits where
-- these count.
module _ (extent : ℕ) (active bit there one : ℕ → Bool) (alike : (k : ℕ) → k < extent → there k ≡ active k) where
  started : (k j : ℕ) → k < extent → k ≡ j → ((i : ℕ) → i < extent → active i ≡ true → one i ≡ bit i) → (there k && one k) ≡ (active j && bit j)
  started k j b same bits = ap (λ t. t && one k) (alike k b) ∙ by (active k) refl ∙ ap (λ i. active i && bit i) same
    where
      by : (t : Bool) → active k ≡ t → (t && one k) ≡ (t && bit k)
      by true on = bits k b on
      by false on = refl

  set : (k j : ℕ) → k < extent → k ≡ j → ((i : ℕ) → i < extent → true ≡ true → one i ≡ bit i) → one k ≡ bit j
  set k j b same bits = bits k b refl ∙ ap bit same

  -- So from one step to the own one the machine parts the line where the language does.
  pub parted_alike : (mode : SegmentMode) (direction : Direction) (own step : ℕ) → own < extent → step < steps_before direction extent own → ((k : ℕ) → k < extent → bit_counts mode (active k) ≡ true → one k ≡ bit k)
      → any_of (parted mode direction extent there one) step (steps_before direction extent own - step) ≡ is_parted mode direction (λ k. begins_by mode (active k) (bit k)) (steps_before direction extent step) own
  unfolding is_parted
  parted_alike M.NoSegments D.Upward own step b s bits = any_alike (parted M.NoSegments D.Upward extent there one) (λ k. false) step (step + 1) (own - step) (λ i h. refl)
  parted_alike M.StartBit D.Upward own step b s bits =
      any_alike (parted M.StartBit D.Upward extent there one) (λ k. active k && bit k) step (step + 1) (own - step) (λ i h. started (step + i + 1) (step + 1 + i) (omega arith) (omega arith) bits)
  parted_alike M.SegmentBit D.Upward own step b s bits =
      any_alike (parted M.SegmentBit D.Upward extent there one) bit step (step + 1) (own - step) (λ i h. set (step + i + 1) (step + 1 + i) (omega arith) (omega arith) bits)
  parted_alike M.StartBit D.Downward own step b s bits =
      any_turned (parted M.StartBit D.Downward extent there one) (λ k. active k && bit k) step own (extent - 1 - own - step)
      (λ i h. started (extent - 1 - (step + i + 1)) (own + (extent - 1 - own - step - 1 - i)) (omega arith) (omega arith) bits)
      ∙ ap (any_of (λ k. active k && bit k) own) (let e : extent - 1 - own - step ≡ extent - 1 - step - own = omega arith in e)
  parted_alike M.SegmentBit D.Downward own step b s bits =
      any_turned (parted M.SegmentBit D.Downward extent there one) bit step (own + 1) (extent - 1 - own - step)
      (λ i h. set (extent - 1 - (step + i)) (own + 1 + (extent - 1 - own - step - 1 - i)) (omega arith) (omega arith) bits)
      ∙ ap (any_of bit (own + 1)) (let e : extent - 1 - own - step ≡ extent - 1 - step - own = omega arith in e)
  parted_alike M.NoSegments D.Downward own step b s bits =
      any_turned (parted M.NoSegments D.Downward extent there one) (λ k. false) step (own + 1) (extent - 1 - own - step) (λ i h. refl)
      ∙ ap (any_of (λ k. false) (own + 1)) (let e : extent - 1 - own - step ≡ extent - 1 - step - own = omega arith in e)
