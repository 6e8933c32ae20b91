-- Messages combined in cells of their own, joined to the cells of the messages before them.
use Rattle.std.proofs.Common.{◌≡◌, ℕ, ◌+◌, ◌-◌, ◌*◌, ◌^◌, ◌<◌, ◌≤◌, ◌/◌, ◌%◌, min, max, List, length, replicate, refl, sym, ◌∙◌, ap, subst, inl, inr, true, arith}
use Rattle.std.specs.Prelude.{slice_index}
use Rattle.std.proofs.lemmas.Bool.{cases_lt}
use Rattle.std.proofs.lemmas.List.{get_or-replicate, length-replicate}
use Rattle.std.proofs.lemmas.Nat.{and_comm, and_mask, div-add-mod', mod_below}
use Rattle.combine_core.specs.declared.kind.Kind.{Kind}
use Rattle.combine_core.specs.declared.kind.Kind.TheVariants.{Add, And, Or, Xor, Min, Max, Last, First}
use Rattle.combine_core.specs.Encodings.{joined}
use Rattle.combine_core.proofs.Gathers.{gathered_joined}
use Rattle.combine_core.proofs.Joins.{joined_comm}
use Rattle.combine_send.specs.declared.senders.Senders.{Senders}
use Rattle.combine_send.specs.Alone.{after_all, HasCombined}
use Rattle.combine_send.specs.Apart.{blank, part_count}
use Rattle.combine_send.proofs.Combining.{then_combined}

-- a blank cell changes nothing
blank_joined : (k : Kind) (a : ℕ) → a < 2 ^ 64 → joined k (blank k) a ≡ a
blank_joined Add a h = let e : (0 + a) % 2 ^ 64 ≡ a = omega (arith, h) in e
blank_joined And a h = and_comm (2 ^ 64 - 1) a ∙ and_mask a 64 ∙ (let e : a % 2 ^ 64 ≡ a = omega (arith, h) in e)
blank_joined Or a h = refl
blank_joined Xor a h = refl
blank_joined (Min signed) a h = let e : min (2 ^ 64 - 1) a ≡ a = omega (arith, h) in e
blank_joined (Max signed) a h = let e : max 0 a ≡ a = omega arith in e
blank_joined Last a h = let e : max 0 a ≡ a = omega arith in e
blank_joined First a h = let e : max 0 a ≡ a = omega arith in e

module _ (kind : Kind) (senders : Senders) where
  -- none are none from anywhere on
  none_from : (from at : ℕ) (old new : List ℕ) → HasCombined kind senders from 0 old new → HasCombined kind senders at 0 old new
  none_from from at old new none = record {
    slots = none.slots;
    each = none.each;
    are = λ j h. absurd (omega arith);
    wide = none.wide;
    cells = none.cells;
  }

  -- cells of a part, joined to cells
  pub joined_apart : (from count targets : ℕ) (old own new : List ℕ) → targets ≡ length old → HasCombined kind senders from count (replicate targets (blank kind)) own
      → ((t : ℕ) → slice_index old t < 2 ^ 64) → length new ≡ length old → ((t : ℕ) → t < length old → slice_index new t ≡ joined kind (slice_index old t) (slice_index own t))
      → HasCombined kind senders from count old new
  joined_apart from count targets old own new many part small wide are = record {
    slots = part.slots;
    each = part.each;
    are = part.are;
    wide = wide;
    cells = λ t h.
        let a = slice_index old t in
        let here : t < targets = omega (arith, h, many) in
        let alone : slice_index own t ≡ after_all kind t (blank kind) part.slots =
        part.cells t (omega (arith, here, length-replicate targets (blank kind))) ∙ ap (λ x. after_all kind t x part.slots) (get_or-replicate targets t (blank kind) 0 here) in
        are t h
        ∙ ap (joined kind a) alone
        ∙ joined_comm kind a (after_all kind t (blank kind) part.slots)
        ∙ sym (gathered_joined kind (λ _. true) t 0 (blank kind) a part.slots)
        ∙ ap (λ x. after_all kind t x part.slots) (blank_joined kind a (small t));
  }

  -- the parts of some first workers and that of one more
  pub then_apart : (size w count : ℕ) (old mid new : List ℕ) → HasCombined kind senders 0 (min (512 * (w * size)) count) old mid
      → HasCombined kind senders (512 * (w * size)) (part_count count (w * size) size) mid new
      → HasCombined kind senders 0 (min (512 * ((w + 1) * size)) count) old new
  then_apart size w count old mid new first next =
      let here = w * size in
      let rest = part_count count here size in
      let sum : min (512 * here) count + rest ≡ min (512 * ((w + 1) * size)) count = (let e : (w + 1) * size ≡ here + size = omega arith in omega (arith, e)) in
      subst (λ n. HasCombined kind senders 0 n old new) sum (elim (cases_lt (512 * here) count) [
        | inl l ↦ then_combined kind senders 0 (512 * here) (min (512 * here) count) rest old mid new (omega (arith, l)) first next
        | inr g ↦
            let none : rest ≡ 0 = omega (arith, g) in
            then_combined kind senders 0 (min (512 * here) count) (min (512 * here) count) rest old mid new (let e : min (512 * here) count ≡ 0 + min (512 * here) count = omega arith in e) first
            (subst (λ n. HasCombined kind senders (min (512 * here) count) n mid new) (sym none) (none_from (512 * here) (min (512 * here) count) mid new (subst (λ n. HasCombined kind senders (512 * here) n mid new) none next)))
      ])

-- so many workers have all blocks between them
pub parts_cover : (blocks workers : ℕ) → 0 < workers → blocks ≤ workers * (blocks / workers + min 1 (blocks % workers))
parts_cover blocks workers some =
    let q = blocks / workers in
    let r = blocks % workers in
    let whole : q * workers + r ≡ blocks = div-add-mod' blocks workers in
    let less : r < workers = mod_below blocks workers some in
    elim (cases_lt 0 r) [
      | inl more ↦
          let one : min 1 r ≡ 1 = omega (arith, more) in
          let e : workers * (q + 1) ≡ q * workers + workers = omega arith in
          subst (λ n. blocks ≤ workers * (q + n)) (sym one) (omega (arith, e, whole, less))
      | inr none ↦
          let zero : min 1 r ≡ 0 = omega (arith, none) in
          let e : workers * (q + 0) ≡ q * workers = omega arith in
          subst (λ n. blocks ≤ workers * (q + n)) (sym zero) (omega (arith, e, whole, none))
    ]
