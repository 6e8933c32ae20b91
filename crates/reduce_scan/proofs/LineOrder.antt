-- The running fold in line order is the scan's fold before each position.
use Rattle.std.proofs.Common.{◌≡◌, ◌≢◌, ℕ, zero, suc, ◌+◌, ◌-◌, ◌*◌, ◌%◌, ◌<◌, ℤ, pos, ◌-ℤ◌, Bool, true, cond, eqb, List, length, drop, refl, sym, ◌∙◌, ap, subst, inl, inr, arith}
use Rattle.std.specs.Prelude.{slice_index, slice_set, ◌||◌}
use Rattle.std.proofs.lemmas.Int.{ints}
use Rattle.std.proofs.lemmas.Bool.{cases_eq, cases_Bool, eq-eqb, ne_eqb}
use Rattle.std.proofs.Math.Nat.{mod-lt, mod-eq_of_lt}
use Rattle.std.proofs.Math.Numerals.{add-one}
use Rattle.vp_sets.specs.Lines.{steps_before}
use Rattle.vp_sets.specs.Positions.{position_count, are_positive, coordinate, coordinates, number_at, moved, shifted}
use Rattle.vp_sets.proofs.PositionLaws.{step_of, coordinate_by_stride, extent_positive, count_positive, later_positive}
use Rattle.paris_code.specs.Memory.{BitMemory, field_number, is_active}
use Rattle.paris_code.specs.Scanning.{ScanOf, own_step}
use Rattle.paris_code.specs.Shapes.{SetShape, extents_at}
use Rattle.phase_meaning.specs.Scans.{IsPrevious, before_at}
use Rattle.phase_meaning.proofs.Lines.{moved_is, steps_below, steps_twice, previous_is, Backs}
use Rattle.phase_meaning.proofs.Runs.{begins, first_fold, begun_fold, more_fold, same_fold}
use Rattle.reduce_scan.specs.Order.{apart_of, ordered}
use Rattle.reduce_scan.specs.Running.{running}
use Rattle.reduce_scan.proofs.Order.{own_is, next_position, backs}
use Rattle.reduce_scan.proofs.Parts.{once, none}

module _ (extents : List ℕ) (scan : ScanOf) (positive : are_positive extents ≡ true) (axis : scan.axis < length extents) where
  some : 0 < slice_index extents scan.axis
  some = extent_positive extents scan.axis positive axis

  stride : 0 < apart_of extents scan
  stride = count_positive (drop (suc scan.axis) extents) (later_positive (suc scan.axis) extents positive)

  coordinate_is : (q : ℕ) → coordinate extents (ordered extents scan q) scan.axis ≡ steps_before scan.direction (slice_index extents scan.axis) (q % slice_index extents scan.axis)
  coordinate_is q = coordinate_by_stride extents (ordered extents scan q) scan.axis axis ∙ own_is scan.direction (slice_index extents scan.axis) (apart_of extents scan) some stride q

  pub first_place : (q : ℕ) → q % slice_index extents scan.axis ≡ 0 → own_step extents scan (ordered extents scan q) ≡ 0
  unfolding own_step
  first_place q is =
      ap (steps_before scan.direction (slice_index extents scan.axis)) (coordinate_is q) ∙ steps_twice scan.direction (slice_index extents scan.axis) (q % slice_index extents scan.axis) (mod-lt q some) ∙ is

  pub neighbours : (q : ℕ) → ordered extents scan (q + 1) < position_count extents → ordered extents scan q < position_count extents → (q + 1) % slice_index extents scan.axis ≢ 0
      → IsPrevious extents scan (ordered extents scan (q + 1)) (ordered extents scan q)
  unfolding shifted
  neighbours q p_in q_in n =
      let e : ℕ = slice_index extents scan.axis in
      let t : ℕ = apart_of extents scan in
      let p : ℕ = ordered extents scan (q + 1) in
      let own : ℕ = coordinate extents p scan.axis in
      let there : ℕ = steps_before scan.direction e (q % e) in
      let k : ℤ = pos there -ℤ pos own in
      let low : there < e = steps_below scan.direction e (q % e) (mod-lt q some) in
      let at : own ≡ steps_before scan.direction e ((q + 1) % e) = coordinate_is (q + 1) in
      let own_low : own < e = omega (arith, at, steps_below scan.direction e ((q + 1) % e) (mod-lt (q + 1) some)) in
      let goes : moved e own k ≡ there = moved_is e own there k (omega (arith, ints)) low in
      let step = step_of extents p scan.axis own there t positive p_in axis refl refl low in
      let same : ordered extents scan q + own * t ≡ p + there * t =
      ap (λ c. ordered extents scan q + c * t) at ∙ next_position scan.direction e t some stride q n in
      let is : ordered extents scan q ≡ number_at extents (slice_set (coordinates extents p) scan.axis there) = omega (arith, same, step.value, step.part) in
      previous_is extents scan positive axis p (ordered extents scan q) there k p_in q_in own_low low
      (subst (λ c. Backs scan.direction c there) (sym at) (backs scan.direction e t some stride q n)) goes
      (is ∙ ap (λ c. number_at extents (slice_set (coordinates extents p) scan.axis c)) (sym goes))
      (ap (coordinates extents) is ∙ step.coords ∙ ap (slice_set (coordinates extents p) scan.axis) (sym goes))

module _ (shapes : List SetShape) (m : BitMemory) (scan : ScanOf) (positive : are_positive (extents_at shapes scan.source.set) ≡ true) (axis : scan.axis < length (extents_at shapes scan.source.set))
    (inside : (q : ℕ) → q < position_count (extents_at shapes scan.source.set) → ordered (extents_at shapes scan.source.set) scan q < position_count (extents_at shapes scan.source.set)) where
  -- a line or a segment begins at a place
  abbrev pub cut_at : ℕ → Bool
  cut_at q = eqb (q % slice_index (extents_at shapes scan.source.set) scan.axis) 0
      || begins shapes m scan (ordered (extents_at shapes scan.source.set) scan (q - 1)) (ordered (extents_at shapes scan.source.set) scan q)

  abbrev pub run_to : ℕ → ℕ
  run_to q = running scan.combiner cut_at (λ k. is_active shapes m scan.source.set (ordered (extents_at shapes scan.source.set) scan k)) (λ k. field_number m scan.source (ordered (extents_at shapes scan.source.set) scan k)) (none scan.combiner) q

  begun : (q : ℕ) → (q + 1) % slice_index (extents_at shapes scan.source.set) scan.axis ≢ 0 → cut_at (suc q) ≡ begins shapes m scan (ordered (extents_at shapes scan.source.set) scan q) (ordered (extents_at shapes scan.source.set) scan (q + 1))
  begun q n =
      let x : List ℕ = extents_at shapes scan.source.set in
      ap (λ t. t || begins shapes m scan (ordered x scan (suc q - 1)) (ordered x scan (suc q))) (ne_eqb (suc q % slice_index x scan.axis) 0 (λ e. n (ap (λ k. k % slice_index x scan.axis) (add-one q) ∙ e)))
      ∙ ap (λ k. begins shapes m scan (ordered x scan k) (ordered x scan (suc q))) (let e : suc q - 1 ≡ q = omega arith in e)
      ∙ ap (λ k. begins shapes m scan (ordered x scan q) (ordered x scan k)) (sym (add-one q))

  pub run_is : (q : ℕ) → q < position_count (extents_at shapes scan.source.set) → run_to q ≡ before_at shapes m scan (ordered (extents_at shapes scan.source.set) scan q)
  unfolding running
  run_is zero b = sym (first_fold shapes m scan (ordered (extents_at shapes scan.source.set) scan 0) (first_place (extents_at shapes scan.source.set) scan positive axis 0 (mod-eq_of_lt (some (extents_at shapes scan.source.set) scan positive axis))))
  run_is (suc q) b =
      let x : List ℕ = extents_at shapes scan.source.set in
      let e : ℕ = slice_index x scan.axis in
      let p : ℕ = ordered x scan (q + 1) in
      let before : ℕ = ordered x scan q in
      let act : Bool = is_active shapes m scan.source.set before in
      let v : ℕ = field_number m scan.source before in
      let rest : run_to q ≡ before_at shapes m scan before = run_is q (omega arith) in
      let at : before_at shapes m scan p ≡ before_at shapes m scan (ordered x scan (suc q)) = ap (λ k. before_at shapes m scan (ordered x scan k)) (add-one q) in
      elim (cases_eq ((q + 1) % e) 0) [
        | inl first ↦
            ap (λ t. cond (t || begins shapes m scan (ordered x scan (suc q - 1)) (ordered x scan (suc q))) (none scan.combiner) (cond act (once scan.combiner (run_to q) v) (run_to q)))
            (eq-eqb (suc q % e) 0 (ap (λ k. k % e) (sym (add-one q)) ∙ first))
            ∙ sym (first_fold shapes m scan p (first_place x scan positive axis (q + 1) first)) ∙ at
        | inr n ↦
            let previous : IsPrevious x scan p before = neighbours x scan positive axis q (inside (q + 1) (omega arith)) (inside q (omega arith)) n in
            let choice : Bool → ℕ → ℕ = λ t r. cond t (none scan.combiner) (cond act (once scan.combiner r v) r) in
            ap (λ t. choice t (run_to q)) (begun q n) ∙ ap (λ r. choice (begins shapes m scan before p) r) rest
            ∙ elim (cases_Bool (begins shapes m scan before p)) [
              | inl on ↦ ap (λ t. choice t (before_at shapes m scan before)) on ∙ sym (begun_fold shapes m scan p before previous on)
              | inr off ↦
                  ap (λ t. choice t (before_at shapes m scan before)) off
                  ∙ elim (cases_Bool act) [
                    | inl on ↦ ap (λ t. cond t (once scan.combiner (before_at shapes m scan before) v) (before_at shapes m scan before)) on ∙ sym (more_fold shapes m scan p before previous off on)
                    | inr idle ↦ ap (λ t. cond t (once scan.combiner (before_at shapes m scan before) v) (before_at shapes m scan before)) idle ∙ sym (same_fold shapes m scan p before previous off idle)
                  ]
            ]
            ∙ at
      ]
